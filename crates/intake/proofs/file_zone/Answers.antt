use Rattle.intake.specs.Steps.{filed}
use Rattle.files.proofs.Walks.{flag_small, bounded_step}
use native.Mathlib.Omega.{arith}
use mathlib.Core.Path.{ap}
use Rattle.files.specs.declared.Walk.{Walk}
use Rattle.intake.proofs.file_zone.Goals as goal

pub put_run-requires : goal.put_run-requires
put_run-requires c =
    let p = c.requires in
    let a = c.args in
    let b = bounded_step a.rule.aggregate a.intake.walk a.z p.0.0.walk p.2 p.1 (omega (arith, p.0.1, p.0.0.count)) in
    omega (arith, ap (λ (w : Walk). w.run.capacity) p.3, b.run, b.expected)

pub overflow_cast-active : goal.overflow_cast-active
overflow_cast-active c = omega (arith, c.flag_code-more.ensures, flag_small c.active_file.result)

pub overflow_add-active : goal.overflow_add-active
overflow_add-active c = omega (arith, c.flag_code-more.ensures, flag_small c.active_file.result, c.requires.0.0.active, c.requires.0.0.walk.seqs, c.requires.0.0.walk.number)

pub returns : goal.returns
unfolding filed
returns c = rw (c.put_run.ensures, c.put_seq.ensures, c.flag_code-more.ensures, c.active_file.ensures, c.ends_with.ensures, c.requires.3)
