-- Pointers that lie on a block stay on a block, whatever the disk does.
-- Assumes nothing.
use mathlib.Core.Path.{◌≡◌}
use Prim.Native.Nat.{ℕ, ◌+◌, ◌-◌, ◌*◌, ◌/◌, ◌%◌, ◌≤◌, min, max}
use native.Mathlib.Omega.{arith}
use Rattle.types.proofs.Blocks.{IsBlock, small, large}
use Rattle.disk.specs.Disk.{DiskZone}

-- p lies in start..start+capacity on a block
pub record At (b : ℕ) (z : DiskZone) (p : ℕ) : Type 0 where
  pub low : z.start ≤ p
  pub high : p ≤ z.start + z.capacity
  pub whole : p % (b / 512) ≡ 0

pub at_start : {b : ℕ} (z : DiskZone) → z.start % (b / 512) ≡ 0 → At b z z.start
at_start z w = record { low = omega arith; high = omega arith; whole = w }

pub at_end : {b : ℕ} → IsBlock b → (z : DiskZone) → z.start % (b / 512) ≡ 0 → z.capacity % (b / 512) ≡ 0 → At b z (z.start + z.capacity)
at_end small z w v = omega arith
at_end large z w v = omega arith

-- n bytes from p on
pub at_write : {b : ℕ} → IsBlock b → (z : DiskZone) (p n : ℕ) → At b z p → n % b ≡ 0 → (p - z.start) * 512 + n ≤ z.capacity * 512 → At b z (p + n / 512)
at_write small z p n a w f = omega arith
at_write large z p n a w f = omega arith

pub whole_min : {b : ℕ} → IsBlock b → (k n : ℕ) → n % b ≡ 0 → min (k * b) n % b ≡ 0
whole_min small k n w = omega arith
whole_min large k n w = omega arith

pub at_fall : {b : ℕ} → IsBlock b → (z : DiskZone) (p k : ℕ) → z.start % (b / 512) ≡ 0 → At b z p → At b z (max (min p z.start) (p - k * (b / 512)))
at_fall small z p k w a = omega arith
at_fall large z p k w a = omega arith

pub whole_size : {b : ℕ} → IsBlock b → (z : DiskZone) (p : ℕ) → z.start % (b / 512) ≡ 0 → At b z p → ((p - z.start) * 512) % b ≡ 0
whole_size small z p w a = omega arith
whole_size large z p w a = omega arith

pub whole_next : {b : ℕ} → IsBlock b → (x y : ℕ) → x % (b / 512) ≡ 0 → y % (b / 512) ≡ 0 → (x + y) % (b / 512) ≡ 0
whole_next small x y v w = omega arith
whole_next large x y v w = omega arith
