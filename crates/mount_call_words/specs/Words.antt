-- What mounting, finding and showing return to a caller in C, and leave in the words that they were lent; calls and completions are in `step_words`, and
-- the formatter in `format_words`.
use Rattle.std.specs.Prelude.{ℕ, List, Bool, cond, ◌&&◌, length, leb}
use Rattle.types.specs.declared.Refusal.TheVariants.{Impossible}
use Rattle.types.specs.Answers.{FindAnswer}
use Rattle.types.specs.Answers.{ShowAnswer}
use Rattle.types.specs.Numbers.{refusal_number, mount_number, mount_values, find_number, find_values, show_number, show_values}
use Rattle.mount.specs.Mount.{Mounting, mount_outcome}
use Rattle.inspect.specs.Find.{find_of}
use Rattle.inspect.specs.Show.{show_by}
use Rattle.answer_words.specs.Answers.{answer_length, answer_words, written}
use Rattle.mount_words.specs.Words.{mount_length, account_length, mount_words, account_words, mount_from}
use Rattle.step_words.specs.Words.{Changed, unwritten, usable}

-- ---- finding and showing: the words of the mount and of its account are only read

pub record Reply : Type 0 where
  pub number : ℕ
  pub answer : List ℕ

abbrev pub silent : List ℕ → Reply
silent a = record { number = refusal_number Impossible; answer = a }

abbrev pub told_found : List ℕ → FindAnswer → Reply
told_found a x = record { number = find_number x; answer = written a (answer_words (find_values x)) }

unfoldable pub find_words : List ℕ → List ℕ → List ℕ → List ℕ → List ℕ → List ℕ → Reply
find_words w u cnv seq name a = cond (usable w u (length a)) (told_found a (find_of (mount_from w u) cnv seq name)) (silent a)

abbrev pub told_shown : List ℕ → ShowAnswer → Reply
told_shown a x = record { number = show_number x; answer = written a (answer_words (show_values x)) }

unfoldable pub show_words : List ℕ → List ℕ → List ℕ → List ℕ → ℕ → ℕ → List ℕ → Reply
show_words w u cnv seq kind i a = cond (usable w u (length a)) (told_shown a (show_by (mount_from w u) cnv seq kind i)) (silent a)

-- ---- mounting: the words of the mount and of its account are only written, so that it is enough that they are long enough

unfoldable pub roomy : ℕ → ℕ → ℕ → Bool
roomy w u a = leb mount_length w && leb account_length u && leb answer_length a

abbrev pub told_mounted : List ℕ → List ℕ → List ℕ → Mounting → Changed
told_mounted w u a o =
    record {
      number = mount_number o.answer;
      mount = written w (mount_words o.mount);
      account = written u (account_words o.mount.account);
      cnv = o.cnv;
      seq = o.seq;
      answer = written a (answer_words (mount_values o.answer));
    }

unfoldable pub mount_given : ℕ → List ℕ → List ℕ → List ℕ → ℕ → ℕ → List ℕ → List ℕ → List ℕ → List ℕ → List ℕ → Changed
mount_given block superblock options report open_limit active_limit cnv seq w u a =
    cond (roomy (length w) (length u) (length a)) (told_mounted w u a (mount_outcome block superblock options report open_limit active_limit cnv seq))
    (unwritten w u cnv seq a)
