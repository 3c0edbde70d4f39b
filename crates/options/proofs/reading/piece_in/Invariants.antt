use Prim.Native.Nat.{◌/◌, ◌^◌}
use mathlib.Core.Path.{◌≡◌}
use lib.ListN.{drop}
use Rattle.options.specs.Reading.{words, piece_in}
use Rattle.options.proofs.reading.piece_in.Given as goal

abbrev pub invariant-loop-w : goal.invariant-loop-w
invariant-loop-w l = l.asked ≡ piece_in (drop l.w words) (l.set / 2 ^ l.w)
