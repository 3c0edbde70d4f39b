use Rattle.text.proofs.Stores.{then}
use Rattle.tape_lines.specs.Lines.{mount_line}
use Rattle.tape_lines.proofs.put_mount_line.Goals as goal

pub returns-clause-put : goal.returns-clause-put
unfolding mount_line
returns-clause-put c = then (then c.put_letters-next.ensures c.put_mount_answer-end.ensures.put) c.put_byte.ensures
