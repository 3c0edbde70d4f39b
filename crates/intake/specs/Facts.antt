-- What holds of what has been taken of a report: functions that go on with it ask for it.
use Rattle.std.specs.Prelude.{◌≤◌, ◌<◌}
use Rattle.types.specs.Blocks.{most_zones}
use Rattle.files.specs.Facts.{BoundedWalk}
use Rattle.intake.specs.declared.Intake.{Intake}

-- no sum or product of its numbers wraps
pub record BoundedIntake (i : Intake) : Type 0 where
  pub walk : BoundedWalk i.walk
  pub count : i.count ≤ most_zones
  pub number : i.walk.number ≤ i.count
  pub active : i.active ≤ i.walk.seqs

-- and a zone is to come
abbrev pub Ready : Intake → Type 0
Ready i = BoundedIntake i × (i.walk.number < i.count)
