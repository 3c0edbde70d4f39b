use mathlib.Core.Path.{◌≡◌}
use lib.ListN.{length}
use Rattle.tape.specs.Tape.{text_from}
use Rattle.tape_turns.specs.Facts.{rest_of}
use Rattle.tape.proofs.Playing.{Going}
use Rattle.tape.proofs.Texts.{left}
use Rattle.tape.proofs.play_rest.Given as goal

abbrev pub invariant-loop-t : goal.invariant-loop-t
invariant-loop-t l = (length l.cnv ≡ length l.initial.cnv) × (length l.seq ≡ length l.initial.seq) × (length l.out ≡ length l.initial.out)
    × Going (text_from (length l.b) l.b (rest_of l.initial.t l.initial.cnv l.initial.seq)) l.initial.out l.out l.b l.initial.t.to l.t.to (rest_of l.t l.cnv l.seq)

abbrev pub decreases-loop-t : goal.decreases-loop-t
decreases-loop-t l = left l.b (rest_of l.t l.cnv l.seq)
