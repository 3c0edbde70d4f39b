use Rattle.pieces.specs.Pieces.{end_outcome}
use Rattle.pieces.proofs.Possible.{possible-told}
use mathlib.Core.Path.{sym, ◌∙◌}
use Rattle.pieces.proofs.end.Goals as goal

pub end_answer-answer-requires : goal.end_answer-answer-requires
end_answer-answer-requires c = (possible-told c.args.pieces (sym c.is_possible.ensures ∙ c.if-is_possible.true)).1.intake

pub returns-then-is_possible : goal.returns-then-is_possible
unfolding end_outcome
returns-then-is_possible c = rw (sym c.is_possible.ensures ∙ c.if-is_possible.true, c.received_by.ensures, c.ended_as.ensures, c.end_mount.ensures, c.end_answer-answer.ensures, c.end_check-found.ensures)

pub returns-else-is_possible : goal.returns-else-is_possible
unfolding end_outcome
returns-else-is_possible c = rw (sym c.is_possible.ensures ∙ c.if-is_possible.false, c.empty_mount.ensures)
