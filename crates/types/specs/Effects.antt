-- What a call or a completion does: its answer, the mount value after it, and what it stores of which row. Here where it stores nothing.
use Rattle.std.specs.Prelude.{Err, None}
use Rattle.types.specs.declared.Mount.{Mount}
use Rattle.types.specs.declared.Refusal.{Refusal}
use Rattle.types.specs.Answers.{Answer}
use Rattle.types.specs.declared.Effect.{Effect}

-- this answer, with the mount value after it
abbrev pub answering : Answer → Mount → Effect
answering a m = record { outcome = record { answer = a; mount = m }; store = None }

-- "All but 7 change nothing."
abbrev pub refusing : Mount → Refusal → Effect
refusing m x = answering (Err x) m
