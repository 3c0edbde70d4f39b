-- What a call or completion that is answered neither 0 nor 7 leaves: every word, be the words usable or not.
-- Assumes nothing.
use Prim.Native.Nat.{ℕ}
use mathlib.Core.Bool.{Bool, cond}
use mathlib.Core.List.{List}
use mathlib.Core.Logic.{◌≢◌}
use Rattle.engine.specs.Engine.{Input, step}
use Rattle.step_words.specs.Words.{told, unwritten}
use Rattle.capi.specs.Chain.{state_in, Unchanged}

abbrev pub LeavesAll : (w u cnv seq : List ℕ) (x : Input) (a : List ℕ) → Bool → Type 0
LeavesAll w u cnv seq x a t =
    let g = cond t (told w u a (step (state_in w u cnv seq) x)) (unwritten w u cnv seq a) in g.number ≢ 0 → g.number ≢ 7 → Unchanged g w u cnv seq
