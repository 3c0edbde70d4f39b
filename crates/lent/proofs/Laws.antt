-- What the engine handed back, with the account apart.
-- Assumes nothing.
use Prim.Native.Nat.{ℕ}
use mathlib.Core.Path.{◌≡◌, sym, ap, ◌∙◌}
use mathlib.Core.List.{List}
use Rattle.types.specs.declared.Mount.{Mount}
use Rattle.types.specs.declared.Outcome.{Outcome}
use Rattle.engine.specs.Engine.{Input, Step, step}
use Rattle.engine.specs.Facts.{state_of, step_of}
use Rattle.lent.specs.declared.Settled.{Settled}
use Rattle.lent.specs.Lent.{settled_of, settled_by}

-- a step on a mount that was put together, and what became of its outcome
pub settles : (cnv seq : List ℕ) (x : Input) {m m' : Mount} {o : Outcome} {cnv' seq' : List ℕ} {r : Settled} → m ≡ m'
    → step (state_of m cnv seq) x ≡ step_of o cnv' seq' → r ≡ settled_of o.answer o.mount → let t = step (state_of m' cnv seq) x in
    (r ≡ settled_by t) × ((cnv' ≡ t.state.cnv) × (seq' ≡ t.state.seq))
settles cnv seq x e taken made =
    let same = sym taken ∙ ap (λ (m : Mount). step (state_of m cnv seq) x) e in
    (made ∙ ap settled_by same, (ap (λ (t : Step). t.state.cnv) same, ap (λ (t : Step). t.state.seq) same))
