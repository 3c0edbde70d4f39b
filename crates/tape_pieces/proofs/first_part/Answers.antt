use mathlib.Core.Path.{sym}
use lib.ListN.{take}
use lib.Seq.{length-take-le}
use Rattle.tape_pieces.proofs.Parts.{first_keeps}
use Rattle.tape_pieces.proofs.first_part.Goals as goal

pub slice_bounds-open_tape-end-2 : goal.slice_bounds-open_tape-end-2
slice_bounds-open_tape-end-2 c = sym (length-take-le _ _ c.requires.0)

pub returns : goal.returns
returns c = let a = c.args in
    first_keeps a.ended (take a.have a.b.now) a.cnv.now a.seq.now c.open_tape-opened.ensures c.requires.1 c.play_part.ensures
