use mathlib.Core.Path.{◌∙◌}
use Rattle.tape_turns.specs.Turns.{open_turn}
use native.Mathlib.Omega.{arith}
use Rattle.tape.proofs.Playing.{copied, played, tape_text_lem, answered}
use Rattle.tape.proofs.play_with.Goals as goal

pub returns : goal.returns
returns c = let a = c.args in
    let t = copied {t = open_turn a.b.now a.cnv.now a.seq.now} (played {t = open_turn a.b.now a.cnv.now a.seq.now} c.open_tape-t.ensures) (omega arith) c.copy_lines-t.ensures in
    let f = tape_text_lem a.b.now a.cnv.now a.seq.now t c.play_rest-end.ensures in
    record { value = c.played_to.ensures ∙ answered _ f; out_after = f.bytes }
