-- Lines that stand at the start of bytes.
-- Assumes nothing.
use mathlib.Core.Path.{◌≡◌}
use mathlib.Core.List.{List}
use Prim.Native.Nat.{ℕ, ◌≤◌}
use native.Mathlib.Omega.{arith}
use lib.ListN.{length, take}
use lib.Seq.{sets, sets-eq, take-append_seam}

-- a line that was put at the start of bytes is their first part
pub first_part_lem : (l line : List ℕ) → length line ≤ length l → take (length line) (sets l 0 line) ≡ line
first_part_lem l line h = rw (sets-eq line l 0 (omega arith)) (take-append_seam line _)
