-- What functions tell those that call them. No outcome is defined here.
use Rattle.std.specs.Prelude.{ℕ, List}
use Rattle.types.specs.declared.Mount.{Mount}
use Rattle.types.specs.declared.Outcome.{Outcome}
use Rattle.engine.specs.Engine.{State, Step}

-- a mount value and both tables, as a state
abbrev pub state_of : Mount → List ℕ → List ℕ → State
state_of m cnv seq = record { mount = m; cnv = cnv; seq = seq }

-- what a function handed back, with both tables as it left them
abbrev pub step_of : Outcome → List ℕ → List ℕ → Step
step_of r cnv seq = record { reply = r.answer; state = state_of r.mount cnv seq }
