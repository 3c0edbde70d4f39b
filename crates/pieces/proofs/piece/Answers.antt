use Rattle.pieces.specs.Pieces.{piece_outcome}
use Rattle.intake.specs.declared.Rule.{Rule}
use Rattle.pieces.proofs.Possible.{possible-told}
use Rattle.types.proofs.Blocks.{block_positive}
use mathlib.Core.Path.{sym, ap, ◌∙◌}
use native.Mathlib.Omega.{arith}
use Rattle.pieces.proofs.piece.Goals as goal

pub receive-received-requires : goal.receive-received-requires
receive-received-requires c = let a = c.args in
    let p = possible-told a.pieces (sym c.is_possible.ensures ∙ c.if-is_possible.true) in
    (omega (arith, ap (λ (r : Rule). r.unit) c.rule_of.ensures, block_positive a.pieces.mount.volume.block p.0), p.1)

pub returns-then-is_possible : goal.returns-then-is_possible
unfolding piece_outcome
returns-then-is_possible c = rw (sym c.is_possible.ensures ∙ c.if-is_possible.true, sym c.rule_of.ensures, c.receive-received.ensures, c.received_by.ensures)

pub returns-else-is_possible : goal.returns-else-is_possible
unfolding piece_outcome
returns-else-is_possible c = rw (sym c.is_possible.ensures ∙ c.if-is_possible.false)
