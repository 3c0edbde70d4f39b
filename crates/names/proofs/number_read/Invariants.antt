use Rattle.names.proofs.Reading.{ReadTo}
use Rattle.names.proofs.number_read.Given as goal

abbrev pub invariant-loop-i : goal.invariant-loop-i
invariant-loop-i l = ReadTo l.text l.i l.value
