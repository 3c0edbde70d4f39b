use Rattle.text.proofs.Stores.{then}
use Rattle.tape_lines.specs.Lines.{completion_line}
use Rattle.tape_lines.proofs.put_completion_line.Goals as goal

pub returns-clause-put : goal.returns-clause-put
unfolding completion_line
returns-clause-put c =
    let mark = rw c.letters_of.ensures at c.put_letters-file.ensures in
    then (then (then mark c.put_two_fields-next.ensures.put) c.put_completion_answer-end.ensures.put) c.put_byte.ensures
