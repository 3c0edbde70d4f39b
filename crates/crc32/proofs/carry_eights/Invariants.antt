use Rattle.crc32.specs.Crc.{crc_from}
use Prim.Native.Nat.{◌*◌}
use lib.ListN.{take}
use mathlib.Core.Path.{◌≡◌}
use Rattle.crc32.proofs.carry_eights.Given as goal

-- the register after the eights so far
abbrev pub invariant-loop-eight : goal.invariant-loop-eight
invariant-loop-eight l = l.sum ≡ crc_from l.crc (take (l.eight-index * 8) l.b)
