-- What begin, a piece and the end return to a caller in C, and leave in the words that they were lent.
use Rattle.std.specs.Prelude.{ℕ, List, Bool, cond, ◌&&◌, length, leb}
use Rattle.types.specs.declared.Refusal.TheVariants.{Impossible}
use Rattle.types.specs.Numbers.{refusal_number, verdict_number, verdict_values, mount_number, mount_values}
use Rattle.pieces.specs.Pieces.{Beginning, begin_outcome, possible_pieces, Fed, piece_outcome, Ended, end_outcome}
use Rattle.answer_words.specs.Answers.{answer_length, answer_words, written}
use Rattle.mount_words.specs.Words.{mount_length, mount_words, account_length, account_words}
use Rattle.pieces_words.specs.Words.{pieces_length, pieces_words, possible_words, pieces_from}

-- ---- begin: the words are only written, so that it is enough that they are long enough

unfoldable pub roomy : ℕ → ℕ → Bool
roomy w a = leb pieces_length w && leb answer_length a

-- the number that it returns, and the words after it
pub record AfterBegin : Type 0 where
  pub number : ℕ
  pub pieces : List ℕ
  pub answer : List ℕ

abbrev pub told_begun : List ℕ → List ℕ → Beginning → AfterBegin
told_begun w a o =
    record {
      number = verdict_number o.answer;
      pieces = written w (pieces_words o.pieces);
      answer = written a (answer_words (verdict_values o.answer));
    }

-- too short they answer 10, with nothing written
unfoldable pub begin_given : ℕ → List ℕ → List ℕ → ℕ → ℕ → List ℕ → List ℕ → AfterBegin
begin_given block superblock options open_limit active_limit w a =
    cond (roomy (length w) (length a)) (told_begun w a (begin_outcome block superblock options open_limit active_limit))
    (record { number = refusal_number Impossible; pieces = w; answer = a })

-- ---- a piece

-- the words can hold a mount in pieces, and the answer has room
unfoldable pub readable : List ℕ → ℕ → Bool
readable w room = possible_words w && leb answer_length room

pub record AfterPiece : Type 0 where
  pub number : ℕ
  pub pieces : List ℕ
  pub cnv : List ℕ
  pub seq : List ℕ
  pub answer : List ℕ

abbrev pub told_piece : List ℕ → List ℕ → Fed → AfterPiece
told_piece w a o =
    record {
      number = verdict_number o.answer;
      pieces = written w (pieces_words o.pieces);
      cnv = o.cnv;
      seq = o.seq;
      answer = written a (answer_words (verdict_values o.answer));
    }

-- 10, with nothing written, where that isn't so, and where no report leads to what they hold
unfoldable pub piece_given : List ℕ → List ℕ → List ℕ → List ℕ → List ℕ → AfterPiece
piece_given w bytes cnv seq a =
    cond (readable w (length a) && possible_pieces (pieces_from w)) (told_piece w a (piece_outcome (pieces_from w) bytes cnv seq))
    (record { number = refusal_number Impossible; pieces = w; cnv = cnv; seq = seq; answer = a })

-- ---- the end: the mount value and its account are only written

unfoldable pub mount_fits : ℕ → ℕ → Bool
mount_fits m u = leb mount_length m && leb account_length u

pub record AfterEnd : Type 0 where
  pub number : ℕ
  pub pieces : List ℕ
  pub mount : List ℕ
  pub account : List ℕ
  pub answer : List ℕ

abbrev pub told_end : List ℕ → List ℕ → List ℕ → List ℕ → Ended → AfterEnd
told_end w m u a o =
    record {
      number = mount_number o.answer;
      pieces = written w (pieces_words o.pieces);
      mount = written m (mount_words o.mount);
      account = written u (account_words o.mount.account);
      answer = written a (answer_words (mount_values o.answer));
    }

unfoldable pub end_given : List ℕ → List ℕ → List ℕ → List ℕ → AfterEnd
end_given w m u a =
    cond (mount_fits (length m) (length u) && readable w (length a) && possible_pieces (pieces_from w)) (told_end w m u a (end_outcome (pieces_from w)))
    (record { number = refusal_number Impossible; pieces = w; mount = m; account = u; answer = a })
