use Rattle.crc32.specs.Crc.{crc_from}
use lib.ListN.{take}
use mathlib.Core.Path.{◌≡◌}
use Rattle.crc32.proofs.carry.Given as goal

-- the register after the bytes so far
abbrev pub invariant-loop-byte : goal.invariant-loop-byte
invariant-loop-byte l = l.sum ≡ crc_from l.crc (take l.byte-index l.b)
