use Rattle.text.proofs.Stores.{then}
use Rattle.tape_lines.specs.Lines.{broken_line}
use Rattle.tape_lines.proofs.put_broken_line.Goals as goal

pub returns-clause-put : goal.returns-clause-put
unfolding broken_line
returns-clause-put c =
    let mark = rw c.letters_of.ensures at c.put_letters-next.ensures in
    then (then mark c.put_field-end.ensures.put) c.put_byte.ensures
