use Rattle.std.proofs.Common.{◌≤◌}
use Rattle.play.specs.declared.TheConstants.{READ_BYTES, WRITE_BYTES}
use Rattle.play.proofs.play_on.Given as goal

abbrev pub invariant-loop : goal.invariant-loop
invariant-loop g l = (l.p.kept.left ≤ READ_BYTES) × (l.p.kept.turned.to ≤ WRITE_BYTES)
