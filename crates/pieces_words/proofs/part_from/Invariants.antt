use mathlib.Core.Path.{◌≡◌}
use Rattle.pieces_words.proofs.Parts.{part_of}
use Rattle.pieces_words.proofs.part_from.Given as goal

abbrev pub invariant-loop-k : goal.invariant-loop-k
invariant-loop-k l = l.part ≡ part_of l.w l.k
