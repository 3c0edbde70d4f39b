use Rattle.text.proofs.Stores.{then}
use Rattle.tape_lines.proofs.put_refusal.Goals as goal

pub returns-clause-put : goal.returns-clause-put
returns-clause-put c = rw (← c.refusal_code-code.ensures) (then c.put_field-next.ensures.put c.put_values.ensures.put)
