use Rattle.std.proofs.lemmas.Result.{err_from_is_err_and}
use Rattle.types.proofs.Blocks.{block_positive}
use Rattle.files.proofs.Walks.{flag_small}
use Rattle.mount.specs.Mount.{answer_for}
use Rattle.mount.proofs.Mounted.{files_answer, files_refused}
use mathlib.Core.Path.{◌∙◌, sym}
use native.Mathlib.Omega.{arith}
use Rattle.mount.proofs.files_answer.Goals as goal

pub check_report-requires : goal.check_report-requires
check_report-requires c = omega (arith, block_positive c.args.block c.requires, c.block_sectors.ensures)

pub returns-in_err-walk : goal.returns-in_err-walk
returns-in_err-walk c =
    let a = c.args in
    let p = err_from_is_err_and c.from_residual.result c.from_residual.ensures.1 in
    rw (p.1, p.2) (files_refused a.block a.aggregate a.b.now a.cnvs a.seqs (rw c.block_sectors.ensures at (sym c.check_report.ensures.value ∙ c.in_err-walk.was)))

pub overflow_cast-result : goal.overflow_cast-result
overflow_cast-result c = omega (arith, c.cnv_files-cnv.ensures, flag_small c.in_ok-walk.walk.run.active, c.in_ok-walk.ensures.bounded.cnvs, c.in_ok-walk.ensures.bounded.number)

pub returns-in_err-refuse_if : goal.returns-in_err-refuse_if
unfolding answer_for
returns-in_err-refuse_if c =
    let a = c.args in
    let p = err_from_is_err_and c.from_residual-in_err-refuse_if.result c.from_residual-in_err-refuse_if.ensures.1 in
    let read = rw c.block_sectors.ensures at (sym c.check_report.ensures.value ∙ c.in_ok-walk.was) in
    let few = rw c.cnv_files-cnv.ensures at (sym c.refuse_if.ensures ∙ c.in_err-refuse_if.was) in
    rw (p.1, p.2, ← files_answer a.block a.aggregate a.b.now a.cnvs a.seqs c.in_ok-walk.walk read, few)

pub returns : goal.returns
unfolding answer_for
returns c =
    let a = c.args in
    let read = rw c.block_sectors.ensures at (sym c.check_report.ensures.value ∙ c.in_ok-walk.was) in
    let few = rw c.cnv_files-cnv.ensures at (sym c.refuse_if.ensures ∙ c.in_ok-refuse_if.was) in
    rw (c.cnv_files-cnv.ensures, ← files_answer a.block a.aggregate a.b.now a.cnvs a.seqs c.in_ok-walk.walk read, few)
