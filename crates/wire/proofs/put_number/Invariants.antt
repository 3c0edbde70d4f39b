use Prim.Native.Nat.{◌-◌}
use mathlib.Core.List.{◌++◌}
use mathlib.Core.Path.{◌≡◌}
use lib.ListN.{length, take}
use Rattle.wire.specs.Le.{little}
use Rattle.wire.proofs.put_number.Given as goal

-- the bytes that are put, and those of what is left: the number's
abbrev pub invariant-loop-byte : goal.invariant-loop-byte
invariant-loop-byte l = (length l.byte-items ≡ l.n) × (take l.byte-index l.byte-items ++ little (l.n - l.byte-index) l.rest ≡ little l.n l.x)
