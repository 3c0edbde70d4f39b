use Rattle.text.proofs.Stores.{then}
use Rattle.tape_lines.specs.Lines.{call_line}
use Rattle.tape_lines.proofs.put_call_line.Goals as goal

pub returns-clause-put : goal.returns-clause-put
unfolding call_line
returns-clause-put c =
    let mark = rw (c.letters_of.ensures, c.call_mark.ensures) at c.put_letters-next.ensures in
    then (then mark c.put_call_answer-end.ensures.put) c.put_byte.ensures
