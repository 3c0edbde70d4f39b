use mathlib.Core.Path.{sym, ◌∙◌}
use Rattle.tape_turns.specs.Turns.{open_turn}
use Rattle.tape_turns.proofs.open_tape.Goals as goal

pub returns-else-opens : goal.returns-else-opens
unfolding open_turn
returns-else-opens c = rw (sym c.opens.ensures.value ∙ c.if-opens.false) (rw c.empty_mount.ensures at (c.broken_turn.ensures c.args.cnv.now c.args.seq.now))
