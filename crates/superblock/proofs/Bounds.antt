-- What a super block gives is within its types, by its bytes.
-- Assumes nothing.
use Rattle.types.specs.Verdicts.{giving}
use Rattle.std.specs.Prelude.{Ok, Err}
use mathlib.Core.Path.{◌≡◌, refl}
use mathlib.Core.List.{List, [], ◌∷◌}
use mathlib.Core.Bool.{Bool, true, false, cond}
use Prim.Native.Nat.{ℕ, zero, suc, ◌+◌, ◌^◌, ◌<◌}
use native.Mathlib.Omega.{arith}
use lib.ListN.{length, get_or, take, drop, replicate, length-drop}
use lib.Seq.{length-take-le, get_or-drop}
use Rattle.types.specs.Answers.{Verdict}
use Rattle.wire.proofs.Laws.{le_below}
use Rattle.superblock.specs.declared.SuperBlock.{SuperBlock}
use Rattle.superblock.specs.SuperBlock.{features_at, uid_at, gid_at, perm_at, has_uid, has_gid, has_perm, super_check, fields_of, super_read, fields_in}
use Rattle.superblock.proofs.Told.{super_told}

pub record BoundedFields (f : SuperBlock) : Type 0 where
  pub owner : f.owner < 2 ^ 32
  pub group : f.group < 2 ^ 32
  pub mode : f.mode < 2 ^ 32
  pub bytes : (k : ℕ) → get_or f.uuid k 0 < 256
  pub sixteen : length f.uuid ≡ 16

either_small : (used : Bool) (m n : ℕ) → m < 2 ^ 32 → n < 2 ^ 32 → cond used m n < 2 ^ 32
either_small true m n h g = h
either_small false m n h g = g

take_bytes : (n : ℕ) (l : List ℕ) → ((k : ℕ) → get_or l k 0 < 256) → (k : ℕ) → get_or (take n l) k 0 < 256
take_bytes zero l h k = omega arith
take_bytes (suc n) [] h k = omega arith
take_bytes (suc n) (x ∷ l) h zero = h 0
take_bytes (suc n) (x ∷ l) h (suc k) = take_bytes n l (λ j. h (suc j)) k

pub zero_bytes : (n k : ℕ) → get_or (replicate n 0) k 0 < 256
zero_bytes zero k = omega arith
zero_bytes (suc n) zero = omega arith
zero_bytes (suc n) (suc k) = zero_bytes n k

module _ (b : List ℕ) (bytes : (k : ℕ) → get_or b k 0 < 256) where
  read_bounded : (found : Verdict) → super_check b ≡ found → BoundedFields (fields_in (giving found (fields_of b)))
  unfolding fields_of
  read_bounded (Ok tt) e =
      record {
        owner = either_small (has_uid (features_at b)) (uid_at b) 0 (le_below 4 b 96 bytes) (omega arith);
        group = either_small (has_gid (features_at b)) (gid_at b) 0 (le_below 4 b 100 bytes) (omega arith);
        mode = either_small (has_perm (features_at b)) (perm_at b) 0o640 (le_below 4 b 104 bytes) (omega arith);
        bytes = take_bytes 16 (drop 72 b) (λ k. omega (arith, get_or-drop 72 b k 0, bytes (72 + k)));
        sixteen = length-take-le 16 (drop 72 b) (omega (arith, length-drop 72 b, (super_told b e).size));
      }
  read_bounded (Err x) e =
      record { owner = omega arith; group = omega arith; mode = omega arith; bytes = zero_bytes 16; sixteen = refl }

  pub fields_bounded : BoundedFields (fields_in (super_read b))
  unfolding super_read
  fields_bounded = read_bounded (super_check b) refl
