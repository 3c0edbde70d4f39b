-- 02, K4, for a caller in C, as it is proved: a mount in pieces that is kept in words between its calls gives exactly what it gives by value. Begin that
-- isn't refused, then any pieces, then the end (the laws `pieces_in_words` and `end_in_words`).
use Rattle.std.specs.Prelude.{ℕ, ◌<◌, ◌≡◌, List, [], ◌∷◌, get_or, take}
use Rattle.types.specs.declared.Refusal.TheVariants.{Impossible}
use Rattle.types.specs.Numbers.{refusal_number, verdict_number, verdict_values, mount_number, mount_values}
use Rattle.answer_words.specs.Answers.{answer_length, answer_words, written}
use Rattle.mount_words.specs.Words.{mount_words, account_words}
use Rattle.pieces.specs.Pieces.{Fed, Ended}
use Rattle.pieces_words.specs.Words.{HoldsPieces}
use Rattle.pieces_call_words.specs.Words.{AfterBegin, AfterPiece, piece_given, AfterEnd}

-- what is lent are bytes
unfoldable pub AllBytes : List (List ℕ) → Type 0
AllBytes [] = Unit
AllBytes (b ∷ bs) = ((k : ℕ) → get_or b k 0 < 256) × AllBytes bs

-- begin, before the first piece
abbrev pub begun_in : AfterBegin → List ℕ → List ℕ → AfterPiece
begun_in o cnv seq = record { number = o.number; pieces = o.pieces; cnv = cnv; seq = seq; answer = o.answer }

-- the pieces one after the other, each lent the words and the tables as the one before left them
unfoldable pub given_in : AfterPiece → List (List ℕ) → AfterPiece
given_in s [] = s
given_in s (b ∷ bs) = given_in (piece_given s.pieces b s.cnv s.seq s.answer) bs

-- the number, the answer's words, the words between the calls and both tables, beside what the definitions give; and it isn't 10
pub record PiecesInWords (s : AfterPiece) (f : Fed) : Type 0 where
  pub number : s.number ≡ verdict_number f.answer
  pub answer : take answer_length s.answer ≡ answer_words (verdict_values f.answer)
  pub pieces : HoldsPieces s.pieces f.pieces
  pub cnv : s.cnv ≡ f.cnv
  pub seq : s.seq ≡ f.seq
  pub possible : s.number ≡ refusal_number Impossible → ⊥

-- .. and at the end, where the mount value and its account are put into words m and u
pub record EndInWords (m u : List ℕ) (e : AfterEnd) (o : Ended) : Type 0 where
  pub number : e.number ≡ mount_number o.answer
  pub answer : take answer_length e.answer ≡ answer_words (mount_values o.answer)
  pub pieces : HoldsPieces e.pieces o.pieces
  pub mount : e.mount ≡ written m (mount_words o.mount)
  pub account : e.account ≡ written u (account_words o.mount.account)
  pub possible : e.number ≡ refusal_number Impossible → ⊥
