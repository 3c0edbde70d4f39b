use Rattle.types.specs.Verdicts.{refuse}
use Rattle.types.proofs.answers.refuse_if.Goals as goal

pub returns-then-fails : goal.returns-then-fails
unfolding refuse
returns-then-fails c = rw c.if-fails.true

pub returns-else-fails : goal.returns-else-fails
unfolding refuse
returns-else-fails c = rw c.if-fails.false
