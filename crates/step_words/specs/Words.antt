-- What a call or a completion returns to a caller in C, and leaves in the words that it was lent.
use Rattle.std.specs.Prelude.{ℕ, List, Bool, cond, ◌&&◌, length, leb}
use Rattle.types.specs.declared.Refusal.TheVariants.{Impossible}
use Rattle.types.specs.Numbers.{refusal_number, answer_number, answer_values}
-- handed on, as the contracts of `capi` speak of these
pub use Rattle.completion.specs.Completions.{Completion, completion_of}
use Rattle.engine.specs.Engine.{Input, Step, step}
use Rattle.answer_words.specs.Answers.{answer_length, answer_words, written}
use Rattle.mount_words.specs.Words.{with_state, with_counts, possible, mount_from}

-- ---- what a function that is lent a mount's words, its account's, both tables and an answer's words gives: the number that it returns, and these after
-- it

pub record Changed : Type 0 where
  pub number : ℕ
  pub mount : List ℕ
  pub account : List ℕ
  pub cnv : List ℕ
  pub seq : List ℕ
  pub answer : List ℕ

-- 10 "mount value .. impossible", with nothing written
abbrev pub unwritten : List ℕ → List ℕ → List ℕ → List ℕ → List ℕ → Changed
unwritten w u cnv seq a = record { number = refusal_number Impossible; mount = w; account = u; cnv = cnv; seq = seq; answer = a }

-- ---- calls and completions

-- the words hold a mount value with its account, and the answer has room
unfoldable pub usable : List ℕ → List ℕ → ℕ → Bool
usable w u room = possible w u && leb answer_length room

-- a step of the engine, told in words
abbrev pub told : List ℕ → List ℕ → List ℕ → Step → Changed
told w u a t =
    record {
      number = answer_number t.reply;
      mount = with_state w t.state.mount;
      account = with_counts u t.state.mount.account;
      cnv = t.state.cnv;
      seq = t.state.seq;
      answer = written a (answer_words (answer_values t.reply));
    }

-- a call or a completion, with the mount's words, its account's, both tables and the answer's words
unfoldable pub step_words : List ℕ → List ℕ → List ℕ → List ℕ → Input → List ℕ → Changed
step_words w u cnv seq x a =
    cond (usable w u (length a)) (told w u a (step (record { mount = mount_from w u; cnv = cnv; seq = seq }) x)) (unwritten w u cnv seq a)
