-- What the formatter's two functions return to a caller in C, and leave in the memory that they were lent.
use Rattle.std.specs.Prelude.{ℕ, List, [], ◌∷◌, Bool, cond, ◌&&◌, length, leb, eqb, Ok, Err}
use Rattle.types.specs.declared.Refusal.TheVariants.{Impossible}
use Rattle.types.specs.Numbers.{refusal_number, refusal_values, format_number, format_values}
use Rattle.superblock.specs.SuperBlock.{label_length, uuid_length}
use Rattle.format.specs.declared.SuperFields.{SuperFields}
use Rattle.format.specs.Format.{Formatting, FieldsRead, format_outcome, fields_read}
use Rattle.answer_words.specs.Answers.{answer_length, answer_words, written}

-- ---- formatting

-- the number that is returned, and the lent block and the answer's words after it
pub record Formatted : Type 0 where
  pub number : ℕ
  pub block : List ℕ
  pub answer : List ℕ

-- the uuid has its length, and the answer has room
unfoldable pub formattable : ℕ → ℕ → Bool
formattable uuid room = eqb uuid uuid_length && leb answer_length room

abbrev pub told_formatted : List ℕ → Formatting → Formatted
told_formatted a o = record { number = format_number o.answer; block = o.block; answer = written a (answer_words (format_values o.answer)) }

-- 10, with nothing written
abbrev pub unformatted : List ℕ → List ℕ → Formatted
unformatted lent a = record { number = refusal_number Impossible; block = lent; answer = a }

unfoldable pub format_words : ℕ → List ℕ → SuperFields → Bool → List ℕ → List ℕ → Formatted
format_words block lent v given zone a =
    cond (formattable (length v.uuid) (length a)) (told_formatted a (format_outcome block lent v given zone)) (unformatted lent a)

-- ---- reading

-- the number that is returned, and the memory for label, uuid and answer after it
pub record Read : Type 0 where
  pub number : ℕ
  pub label : List ℕ
  pub uuid : List ℕ
  pub answer : List ℕ

-- label and uuid have their lengths, and the answer has room
unfoldable pub readable : ℕ → ℕ → ℕ → Bool
readable label uuid room = eqb label label_length && eqb uuid uuid_length && leb answer_length room

-- a refusal leaves label and uuid as they were
abbrev pub told_read : FieldsRead → List ℕ → List ℕ → List ℕ → Read
told_read (Ok v) label uuid a =
    record {
      number = 0;
      label = v.label;
      uuid = v.uuid;
      answer = written a (answer_words (v.features ∷ v.owner ∷ v.group ∷ v.mode ∷ []));
    }
told_read (Err x) label uuid a = record { number = refusal_number x; label = label; uuid = uuid; answer = written a (answer_words (refusal_values x)) }

unfoldable pub fields_words : List ℕ → List ℕ → List ℕ → List ℕ → Read
fields_words b label uuid a =
    cond (readable (length label) (length uuid) (length a)) (told_read (fields_read b) label uuid a)
    (record { number = refusal_number Impossible; label = label; uuid = uuid; answer = a })
