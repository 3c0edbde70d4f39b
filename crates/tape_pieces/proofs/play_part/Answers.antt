use mathlib.Core.Path.{sym}
use native.Mathlib.Omega.{arith}
use lib.ListN.{length, take}
use lib.Seq.{length-take-le}
use Rattle.tape_turns.specs.Facts.{rest_of}
use Rattle.tape_pieces.proofs.Parts.{keeps}
use Rattle.tape_pieces.proofs.play_part.Goals as goal

pub slice_bounds-play_block-end-2 : goal.slice_bounds-play_block-end-2
slice_bounds-play_block-end-2 c = sym (length-take-le _ _ c.requires)

pub returns : goal.returns
returns c = let a = c.args in
    let p = c.play_block-played.ensures in
    let k = c.keep_rest.ensures in
    keeps a.ended (take a.have a.b.now) (length a.out.now) (rest_of a.t a.cnv.now a.seq.now) p.plays p.to_in_bounds k.value k.b_after c.at_front.ensures
    (omega (arith, length-take-le a.have a.b.now c.requires, c.requires))
