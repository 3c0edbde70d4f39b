use Prim.Native.Nat.{◌≤◌}
use mathlib.Core.Path.{◌≡◌}
use lib.ListN.{length}
use Rattle.tape_turns.specs.Facts.{rest_of}
use Rattle.tape.specs.Blocks.{block_of}
use Rattle.tape.proofs.Texts.{left}
use Rattle.tape.proofs.Loop.{Block}
use Rattle.tape.proofs.play_block.Given as goal

abbrev pub invariant-loop-cnv : goal.invariant-loop-cnv
invariant-loop-cnv l = (length l.cnv ≡ length l.initial.cnv) × (length l.seq ≡ length l.initial.seq) × (length l.out ≡ length l.initial.out) × (l.initial.t.to ≤ length l.initial.out → l.t.to ≤ length l.initial.out)
    × Block (block_of l.ended l.b l.initial.t.to (length l.initial.out) (rest_of l.initial.t l.initial.cnv l.initial.seq)) l.initial.out l.out l.b l.ended l.initial.t.to l.t.to (length l.initial.out) (rest_of l.t l.cnv l.seq)

abbrev pub decreases-loop-cnv : goal.decreases-loop-cnv
decreases-loop-cnv l = left l.b (rest_of l.t l.cnv l.seq)
