-- "Block: 512 or 4,096": a block is one of the two, so that arithmetic on it computes, and so do the tests of a number on a block.
-- Assumes nothing.
use Prim.Native.Nat.{ℕ, ◌%◌, ◌<◌}
use native.Mathlib.Omega.{arith}
use mathlib.Core.Path.{◌≡◌, refl, sym, subst}
use mathlib.Core.Bool.{Bool, true, false, ◌||◌}
use lib.Dec.{eqb}
use borrow.Author.Tests.{eqb-true, eq-eqb}
use Rattle.types.specs.Blocks.{good_block, block_sectors, on_block}

pub data IsBlock : ℕ → Type 0 where
  small : IsBlock 512
  large : IsBlock 4096

pub is_block : (b : ℕ) → good_block b ≡ true → IsBlock b
is_block b e = by (eqb b 512) refl e
  where
    by : (t : Bool) → eqb b 512 ≡ t → t || eqb b 4096 ≡ true → IsBlock b
    by true f e = subst IsBlock (sym (eqb-true b 512 f)) small
    by false f e = subst IsBlock (sym (eqb-true b 4096 e)) large

-- each has a sector at least
pub block_positive : (block : ℕ) → good_block block ≡ true → 0 < block_sectors block
block_positive block h = by (is_block block h)
  where
    by : {b : ℕ} → IsBlock b → 0 < block_sectors b
    by small = omega arith
    by large = omega arith

-- ON A BLOCK

pub on_large : (block n : ℕ) → good_block block ≡ true → (block ≡ 512 → ⊥) → on_block 4096 n ≡ on_block block n
on_large block n h other = by (is_block block h) other
  where
    by : {b : ℕ} → IsBlock b → (b ≡ 512 → ⊥) → on_block 4096 n ≡ on_block b n
    by small other = absurd (other refl)
    by large other = refl

pub sectors_on : (block n : ℕ) → good_block block ≡ true → eqb block 512 || on_block 8 n ≡ on_block (block_sectors block) n
sectors_on block n h = by (is_block block h)
  where
    by : {b : ℕ} → IsBlock b → eqb b 512 || on_block 8 n ≡ on_block (block_sectors b) n
    by small = sym (eq-eqb (n % 1) 0 (omega arith))
    by large = refl
