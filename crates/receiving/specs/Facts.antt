-- What holds of what has been received of a report: functions that go on with it ask for it.
use Rattle.std.specs.Prelude.{◌≤◌, ◌<◌, ◌≡◌, Bool, true, false, ◌&&◌, ltb, Ok, Err}
use Rattle.types.specs.Answers.{Verdict}
use Rattle.intake.specs.declared.Intake.{Intake}
use Rattle.intake.specs.Facts.{BoundedIntake}
use Rattle.receiving.specs.declared.Received.{Received}
use Rattle.receiving.specs.Bytes.{unit_bytes, wholly}

-- what has been taken is bounded, and the header or zone that comes next isn't whole
pub record BoundedReceived (x : Received) : Type 0 where
  pub intake : BoundedIntake x.intake
  pub held : x.held < unit_bytes x.intake

abbrev pub is_passed : Verdict → Bool
is_passed (Ok tt) = true
is_passed (Err x) = false

-- nothing was refused, and a zone is to come
abbrev pub goes_on : Intake → Bool
goes_on i = is_passed i.check && ltb i.walk.number i.count

-- a header or zone has just been taken: nothing of the next is there, and the header has been, unless it was refused
pub record JustTaken (x : Received) : Type 0 where
  pub whole : x ≡ wholly x.intake
  pub counted : x.intake.check ≡ Ok tt → 1 ≤ x.intake.count
