-- The engine: one function says what every call and every completion answers and leaves. It stands on the definitions of `calls` and
-- `completion` and on nothing else.
use Rattle.std.specs.Prelude.{ℕ, List, [], ◌∷◌}
use Rattle.types.specs.declared.Mount.{Mount}
use Rattle.types.specs.declared.FileKind.TheVariants.{Conventional, Sequential}
use Rattle.types.specs.declared.Call.{Call}
use Rattle.types.specs.Answers.{Answer}
use Rattle.types.specs.declared.Effect.{Effect}
use Rattle.table.specs.Rows.{stored}
use Rattle.mount.specs.Mount.{Mounting}
use Rattle.calls.specs.Calls as calls
use Rattle.completion.specs.Completions.{Completion}
use Rattle.completion.specs.Completions as completions

-- what each call and completion finds, and what it leaves: the mount value, and the words of both tables
pub record State : Type 0 where
  pub mount : Mount
  pub cnv : List ℕ
  pub seq : List ℕ

-- what a mount leaves
abbrev pub mounted : Mounting → State
mounted o = record { mount = o.mount; cnv = o.cnv; seq = o.seq }

-- what comes in, about the file of a kind's number and a number: a call, or a completion of the command that it has outstanding
pub data Input : Type 0 where
  call : (kind number : ℕ) → Call → Input
  completion : (kind number : ℕ) → Completion → Input

-- "decides each call and digests each completion"
abbrev pub effect_of : State → Input → Effect
effect_of s (call kind n x) = calls.effect_by s.mount s.cnv s.seq kind n x
effect_of s (completion kind n x) = completions.effect_by s.mount s.cnv s.seq kind n x

-- the state once an effect is applied to it
abbrev pub applied : State → Effect → State
applied s e =
    record {
      mount = e.outcome.mount;
      cnv = stored Conventional e.store s.cnv;
      seq = stored Sequential e.store s.seq;
    }

-- what is replied, and the state after it
pub record Step : Type 0 where
  pub reply : Answer
  pub state : State

abbrev pub step_by : State → Effect → Step
step_by s e = record { reply = e.outcome.answer; state = applied s e }

-- THE ENGINE
unfoldable pub step : State → Input → Step
step s x = step_by s (effect_of s x)

-- ---- "Each call and completion gets the mount value and tables that the last one left."

-- what is replied to each of a list, and the state after all
pub record Run : Type 0 where
  pub replies : List Answer
  pub state : State

unfoldable pub run : State → List Input → Run
run s [] = record { replies = []; state = s }
run s (x ∷ xs) =
    let t = step s x in
    let rest = run t.state xs in
    record { replies = t.reply ∷ rest.replies; state = rest.state }
