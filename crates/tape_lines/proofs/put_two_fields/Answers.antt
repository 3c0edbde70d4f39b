use Rattle.text.proofs.Stores.{then, nothing}
use Rattle.tape_lines.proofs.put_two_fields.Goals as goal

pub returns-clause-put : goal.returns-clause-put
returns-clause-put c = then c.put_field-next.ensures.put (then c.put_field.ensures.put (nothing _ _))
