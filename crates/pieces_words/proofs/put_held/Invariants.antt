use mathlib.Core.Path.{◌≡◌}
use Rattle.pieces_words.proofs.Parts.{held_of}
use Rattle.pieces_words.proofs.put_held.Given as goal

abbrev pub invariant-loop-k : goal.invariant-loop-k
invariant-loop-k l = l.w ≡ held_of l.fn.w l.x l.k
