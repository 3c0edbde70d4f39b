use mathlib.Core.Path.{◌≡◌}
use lib.ListN.{drop}
use Rattle.options.specs.Reading.{words, having}
use Rattle.options.proofs.reading.having.Given as goal

abbrev pub invariant-loop-w : goal.invariant-loop-w
invariant-loop-w l = l.set ≡ having l.b l.at (drop l.w words)
