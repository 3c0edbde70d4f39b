use Rattle.text.proofs.Stores.{then}
use Rattle.tape_lines.proofs.put_mount_answer.Goals as goal

pub returns-in-Ok-clause-put : goal.returns-in-Ok-clause-put
returns-in-Ok-clause-put c = rw c.in-Ok.is (then c.put_field-next.ensures.put c.put_two_fields.ensures.put)
