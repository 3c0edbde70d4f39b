-- An answer's values in the words that a caller lends.
use Rattle.std.specs.Prelude.{ℕ, List, [], ◌∷◌, ◌++◌, length, get_or, drop}
use Rattle.answer_words.specs.declared.AnswerWords.{AnswerWords}

-- the words of an answer
abbrev pub answer_length : ℕ
answer_length = 7

-- the most values of an answer
abbrev pub most_values : ℕ
most_values = 6

-- how many values there are, and up to six of them; a value that there isn't is 0
abbrev pub values_of : List ℕ → AnswerWords
values_of vs =
    record {
      count = length vs;
      values = get_or vs 0 0 ∷ get_or vs 1 0 ∷ get_or vs 2 0 ∷ get_or vs 3 0 ∷ get_or vs 4 0 ∷ get_or vs 5 0 ∷ [];
    }

abbrev pub value_words : AnswerWords → List ℕ
value_words v = v.count ∷ v.values

-- an answer's values as words
unfoldable pub answer_words : List ℕ → List ℕ
answer_words vs = value_words (values_of vs)

-- words put in front of others: these, and then what was there
unfoldable pub written : List ℕ → List ℕ → List ℕ
written words values = values ++ drop (length values) words
