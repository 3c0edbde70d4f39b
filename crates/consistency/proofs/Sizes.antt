-- The size that a good record gives lies on a block, within the capacity.
-- Assumes nothing.
use Prim.Native.Nat.{ℕ, ◌-◌, ◌%◌, ◌≤◌}
use native.Mathlib.Omega.{arith}
use mathlib.Core.Path.{◌≡◌, ap}
use mathlib.Core.Bool.{true, false, not}
use borrow.Author.Tests.{eqb-true}
use Rattle.types.specs.Blocks.{bytes_of, block_sectors, on_block}
use Rattle.types.proofs.Blocks.{IsBlock, small, large}
use Rattle.types.proofs.Tests.{both, and_left, and_right, cases}
use Rattle.zones.specs.declared.Zone.{Zone}
use Rattle.zones.specs.Zone.{full, written_size, says_size, good_record}
use Rattle.zones.proofs.Laws.{GoodRecord, record_told, well_pointed}

-- a size that lies on a block, within the capacity
pub record WellSized (b sectors size : ℕ) : Type 0 where
  pub blocks : size % b ≡ 0
  pub within : size ≤ bytes_of sectors

pub bytes_whole : {b : ℕ} → IsBlock b → (n : ℕ) → n % block_sectors b ≡ 0 → bytes_of n % b ≡ 0
bytes_whole small n e = omega arith
bytes_whole large n e = omega arith

pointer_blocks : {b : ℕ} → IsBlock b → (start p : ℕ) → start % block_sectors b ≡ 0 → p % block_sectors b ≡ 0 → start ≤ p → bytes_of (p - start) % b ≡ 0
pointer_blocks small start p e f l = omega arith
pointer_blocks large start p e f l = omega arith

-- what a healthy sequential zone says is written: below its pointer, or all of a full one
pub written_well : {b : ℕ} → IsBlock b → (z : Zone) → good_record (block_sectors b) z ≡ true → z.start % block_sectors b ≡ 0 → says_size z ≡ true
    → WellSized b z.capacity (written_size z)
written_well {b} block z good on s = cases (full z) (λ e. rw e whole) (λ e. rw e (below e))
  where
    told : GoodRecord (block_sectors b) z
    told = record_told (block_sectors b) z good

    whole : WellSized b z.capacity (bytes_of z.capacity)
    whole =
        let on : on_block (block_sectors b) z.capacity ≡ true = search (and_left, and_right, told.capacity) depth 9 in
        record { blocks = bytes_whole block z.capacity (eqb-true _ 0 on); within = omega arith }

    below : full z ≡ false → WellSized b z.capacity (bytes_of (z.pointer - z.start))
    below e =
        let w = well_pointed (block_sectors b) z told.pointer (both s (ap not e)) in
        record { blocks = pointer_blocks block z.start z.pointer on w.whole w.at.low; within = omega (arith, w.at) }
