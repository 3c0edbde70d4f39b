-- What holds of a walk over good zones: functions that go on with one ask for it.
use Rattle.std.specs.Prelude.{◌^◌, ◌≤◌}
use Rattle.types.specs.Blocks.{most_zones}
use Rattle.files.specs.declared.Walk.{Walk}

-- no sum or product of its numbers wraps: zones follow each other, so a run holds no more than the sectors up to where the last one ended
pub record BoundedWalk (w : Walk) : Type 0 where
  pub number : w.number ≤ most_zones
  pub expected : w.expected ≤ 2 ^ 40
  pub run : w.run.capacity ≤ w.expected
  pub cnvs : w.cnvs ≤ w.number
  pub seqs : w.seqs ≤ w.number
