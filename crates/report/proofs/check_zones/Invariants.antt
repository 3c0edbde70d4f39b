use mathlib.Core.Path.{◌≡◌}
use Rattle.report.proofs.Pass.{Checking}
use Rattle.report.specs.Report.{zone_count}
use Prim.Native.Nat.{◌-◌}
use Rattle.report.proofs.check_zones.Given as goal

abbrev pub invariant-loop-walk : goal.invariant-loop-walk
invariant-loop-walk l = Checking l.unit l.aggregate l.report l.walk × (l.count ≡ zone_count l.report)

abbrev pub decreases-loop-walk : goal.decreases-loop-walk
decreases-loop-walk l = l.count - l.walk.number
