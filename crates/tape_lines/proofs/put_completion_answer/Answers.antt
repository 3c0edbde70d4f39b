use Rattle.text.proofs.Stores.{then, nothing}
use Rattle.tape_lines.proofs.put_completion_answer.Goals as goal

pub returns-in-Done-clause-put : goal.returns-in-Done-clause-put
returns-in-Done-clause-put c = rw (c.in-Ok.is, c.in-Done.is) (then c.put_field-next.ensures.put (then c.put_field.ensures.put (nothing _ _)))

pub returns-in-Issue-clause-put : goal.returns-in-Issue-clause-put
returns-in-Issue-clause-put c =
    let command = rw c.from.ensures at c.put_field-rest.ensures.put in
    rw (c.in-Ok.is, c.in-Issue.is) (then c.put_field-next.ensures.put (then command c.put_two_fields.ensures.put))
