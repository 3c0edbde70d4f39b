use Rattle.text.proofs.Stores.{then}
use Rattle.tape_lines.proofs.put_call_answer.Goals as goal

pub returns-in-Done-clause-put : goal.returns-in-Done-clause-put
returns-in-Done-clause-put c = rw (c.in-Ok.is, c.in-Done.is) (then c.put_field-next.ensures.put c.put_done.ensures.put)

pub returns-in-Issue-clause-put : goal.returns-in-Issue-clause-put
returns-in-Issue-clause-put c = rw (c.in-Ok.is, c.in-Issue.is) (then c.put_field-next.ensures.put c.put_command.ensures.put)
