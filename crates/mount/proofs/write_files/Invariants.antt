use Rattle.mount.proofs.Filling.{Writing}
use Rattle.report.specs.Report.{zone_count}
use Prim.Native.Nat.{◌-◌}
use mathlib.Core.Path.{◌≡◌}
use Rattle.mount.proofs.write_files.Given as goal

abbrev pub invariant-loop-walk : goal.invariant-loop-walk
invariant-loop-walk l = Writing l.aggregate l.b l.initial.cnv l.initial.seq l.walk l.cnv l.seq × (l.count ≡ zone_count l.b)

abbrev pub decreases-loop-walk : goal.decreases-loop-walk
decreases-loop-walk l = l.count - l.walk.number
