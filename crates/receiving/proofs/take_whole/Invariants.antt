use Prim.Native.Nat.{◌-◌}
use lib.ListN.{length}
use Rattle.receiving.proofs.Zones.{Passing}
use Rattle.receiving.proofs.take_whole.Given as goal

abbrev pub invariant-loop-at : goal.invariant-loop-at
invariant-loop-at l = Passing l.rule l.bytes l.initial.at l.initial.cnv l.initial.seq l.initial.taken l.cnv l.seq l.taken l.at

abbrev pub decreases-loop-at : goal.decreases-loop-at
decreases-loop-at l = length l.bytes - l.at
