use Rattle.std.proofs.lemmas.Result.{err_from_is_err_and}
use Rattle.mount.specs.Mount.{mount_answer_of, mount_check, answer_for}
use Rattle.types.specs.Verdicts.{and_then}
use Rattle.mount.proofs.Mounted.{opening_block}
use mathlib.Core.Path.{◌∙◌, sym}
use Rattle.mount.proofs.mount_answer.Goals as goal

pub files_answer-requires : goal.files_answer-requires
files_answer-requires c = opening_block _ _ _ (sym c.opening_check.ensures ∙ c.in_ok-opening_check.was)

pub returns : goal.returns
unfolding mount_answer_of mount_check and_then
returns c = rw (c.files_answer.ensures, sym c.opening_check.ensures ∙ c.in_ok-opening_check.was)

pub returns-in_err-opening_check : goal.returns-in_err-opening_check
unfolding mount_answer_of mount_check and_then answer_for
returns-in_err-opening_check c =
    let p = err_from_is_err_and c.from_residual.result c.from_residual.ensures.1 in
    rw (p.1, p.2, sym c.opening_check.ensures ∙ c.in_err-opening_check.was)
