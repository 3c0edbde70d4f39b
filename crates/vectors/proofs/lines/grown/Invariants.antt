use Rattle.std.proofs.Common.{◌≤◌}
use Rattle.vectors.proofs.lines.grown.Given as goal

abbrev pub invariant-loop-c : goal.invariant-loop-c
invariant-loop-c g l = l.base ≤ 16
