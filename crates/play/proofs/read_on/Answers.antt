use Rattle.std.proofs.Common.{length}
use Rattle.tape_pieces.proofs.Parts.{continues}
use Rattle.play.proofs.read_on.Goals as goal

pub returns-clause-continues : goal.returns-clause-continues
returns-clause-continues g c =
    let input = c.in_ok-input.input in
    let f = c.in_ok-input.ensures in
    let m = c.args.m.now in
    continues m.buffer m.cnv m.seq input.have c.args.p.kept input.ended c.args.p.ended (length m.lines)
    f.have_le_have.0 f.b_unchanged f.have_le_have.3 c.next_part-kept.ensures
