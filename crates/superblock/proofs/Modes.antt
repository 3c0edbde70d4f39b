-- Of every super block that is accepted 01's sentence still holds, "With bit 3, the mode is perm's low nine bits": its perm has no others.
-- Assumes nothing.
use Rattle.std.specs.Prelude.{Ok}
use mathlib.Core.Path.{◌≡◌, refl}
use mathlib.Core.List.{List}
use mathlib.Core.Bool.{Bool, true, false}
use Prim.Native.Nat.{ℕ, ◌%◌, ◌^◌}
use native.Mathlib.Omega.{arith}
use borrow.Author.Tests.{ltb-false}
use Rattle.superblock.specs.SuperBlock.{features_at, perm_at, has_perm, wrong_perm, super_check, mode_of, fields_of}
use Rattle.superblock.proofs.Told.{super_told}

low_bits : (used : Bool) (perm : ℕ) → wrong_perm used perm ≡ false → mode_of used perm ≡ mode_of used (perm % 2 ^ 9)
low_bits true perm e =
    let small = ltb-false 0o777 perm e in
    omega arith
low_bits false perm e = refl

module _ (b : List ℕ) (passed : super_check b ≡ Ok tt) where
  pub low_nine_bits : (fields_of b).mode ≡ mode_of (has_perm (features_at b)) (perm_at b % 2 ^ 9)
  unfolding fields_of
  low_nine_bits = low_bits (has_perm (features_at b)) (perm_at b) (super_told b passed).values.moded
