use mathlib.Core.Path.{sym, ◌∙◌}
use Rattle.tape_turns.specs.Turns.{turn_at}
use Rattle.tape_turns.proofs.take_turn.Goals as goal

pub returns-in_default : goal.returns-in_default
unfolding turn_at
returns-in_default c = rw (sym c.record_at.ensures.value ∙ c.in_default.is) (c.broken_turn.ensures c.args.cnv.now c.args.seq.now)
