use Rattle.receiving.specs.Bytes.{unit_taken}
use Rattle.intake.specs.Steps.{Taking}
use Rattle.receiving.proofs.Units.{not-complete, goes_on_in}
use Rattle.receiving.proofs.Zones.{passing_one}
use borrow.Author.Tests.{eq-eqb, ne_eqb}
use native.Mathlib.Omega.{arith}
use Rattle.receiving.proofs.take_unit.Goals as goal

pub returns-then-intake-eq0 : goal.returns-then-intake-eq0
unfolding unit_taken
returns-then-intake-eq0 c = rw (eq-eqb c.args.intake.count 0 c.if-intake-eq0.true, c.take_header.ensures)

pub returns-else-intake-eq0 : goal.returns-else-intake-eq0
unfolding unit_taken
returns-else-intake-eq0 c = let a = c.args in
    let p = c.requires in
    let w = c.take_whole in
    let some = c.if-intake-eq0.false in
    let t : Taking = record { intake = a.intake; cnv = a.cnv.now; seq = a.seq.now } in
    let one = w.ensures.moved (goes_on_in a.intake p.2 (not-complete a.intake p.3 some)) (omega (arith, p.4)) in
    rw (ne_eqb a.intake.count 0 some) (passing_one a.rule t a.b.now w.result.intake _ _ w.result.at p.2 some p.3 p.4 (omega (arith, one, w.ensures.inside, p.4)) w.ensures.fed)
