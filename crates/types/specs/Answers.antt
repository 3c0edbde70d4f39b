-- What is answered: why it was refused, "When the drawer says no", or what was asked for. Each is a result whose error is the refusal.
use Rattle.std.specs.Prelude.{ℕ, Bool, Option, Result}
use Rattle.types.specs.declared.FileKind.{FileKind}
use Rattle.types.specs.declared.Row.{Row}
use Rattle.types.specs.declared.Refusal.{Refusal}
use Rattle.types.specs.declared.Granted.{Granted}

-- what checks find: nothing, or what the first of them refuses
abbrev pub Verdict : Type 0
Verdict = Result (Unit {0}) Refusal

-- what a call or a completion answers
abbrev pub Answer : Type 0
Answer = Result Granted Refusal

-- what a mount answers: the numbers of conventional and of sequential files
abbrev pub MountAnswer : Type 0
MountAnswer = Result (ℕ × ℕ) Refusal

-- what finding a name answers: the file
abbrev pub FindAnswer : Type 0
FindAnswer = Result (FileKind × ℕ) Refusal

-- what showing a file answers: its row and the mode shown
abbrev pub ShowAnswer : Type 0
ShowAnswer = Result (Row × ℕ) Refusal

-- what formatting answers: whether zone 0 must first be finished
abbrev pub FormatAnswer : Type 0
FormatAnswer = Result Bool Refusal

-- what a call or a completion stores: nothing, or the row of a file
abbrev pub Store : Type 0
Store = Option (FileKind × ℕ × Row)
