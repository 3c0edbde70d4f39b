-- What an accepted super block tells, check by check. Whoever uses this opens no chain.
-- Assumes nothing.
use Rattle.superblock.specs.declared.SuperBlock.{SuperBlock}
use Rattle.types.specs.declared.Refusal.{Refusal}
use Rattle.types.specs.Verdicts.{giving}
use Rattle.std.specs.Prelude.{Ok, Err}
use Prim.Native.Nat.{ℕ}
use mathlib.Core.Path.{◌≡◌, refl}
use mathlib.Core.Bool.{false}
use mathlib.Core.List.{List}
use lib.ListN.{length}
use borrow.Author.Tests.{eqb-true, not-false}
use Rattle.types.specs.declared.Refusal.TheVariants.{SuperLength, SuperMagic, SuperChecksum, SuperFeatures, SuperOwner, SuperPerm, SuperTail}
use Rattle.types.specs.Answers.{Verdict}
use Rattle.types.proofs.VerdictLaws.{check_passed, check_passes, given, not_given}
use Rattle.crc32.specs.Crc.{superblock_crc}
use Rattle.superblock.specs.SuperBlock.{super_length, magic_at, magic, checksum_at, features_at, uid_at, gid_at, perm_at, has_perm, unknown_features, no_owner, wrong_perm, values_check, nonzero_tail, super_check, super_read, found_in, fields_of}

-- of its values
pub record GoodValues (features uid gid perm : ℕ) : Type 0 where
  pub known : unknown_features features ≡ false
  pub owned : no_owner features uid gid ≡ false
  pub moded : wrong_perm (has_perm features) perm ≡ false

pub values_told : {features uid gid perm : ℕ} {rest : Verdict} → values_check features uid gid perm rest ≡ Ok tt → GoodValues features uid gid perm × (rest ≡ Ok tt)
values_told e =
    let (known, owner) = check_passed SuperFeatures e in
    let (owned, mode) = check_passed SuperOwner owner in
    let (moded, rest) = check_passed SuperPerm mode in
    (record { known = known; owned = owned; moded = moded }, rest)

pub values_pass : {features uid gid perm : ℕ} {rest v : Verdict} → GoodValues features uid gid perm → rest ≡ v → values_check features uid gid perm rest ≡ v
values_pass g e = check_passes SuperFeatures g.known (check_passes SuperOwner g.owned (check_passes SuperPerm g.moded e))

-- of all its bytes
pub record Told (b : List ℕ) : Type 0 where
  pub size : length b ≡ super_length
  pub magic-is : magic_at b ≡ magic
  pub checksum_is : checksum_at b ≡ superblock_crc b
  pub values : GoodValues (features_at b) (uid_at b) (gid_at b) (perm_at b)
  pub tail_zero : nonzero_tail b ≡ false

pub super_told : (b : List ℕ) → super_check b ≡ Ok tt → Told b
unfolding super_check
super_told b e =
    let (size, fields) = check_passed SuperLength e in
    let (magical, checksum) = check_passed SuperMagic fields in
    let (summed, values) = check_passed SuperChecksum checksum in
    let (good, tail) = values_told values in
    record {
      size = eqb-true _ _ (not-false _ size);
      magic-is = eqb-true _ _ (not-false _ magical);
      checksum_is = eqb-true _ _ (not-false _ summed);
      values = good;
      tail_zero = (check_passed SuperTail tail).0;
    }

-- what was found of it
pub check_read : (b : List ℕ) → found_in (super_read b) ≡ super_check b
unfolding super_read
check_read b = by (super_check b)
  where
    by : (v : Verdict) → found_in (giving v (fields_of b)) ≡ v
    by (Ok tt) = refl
    by (Err x) = refl

-- so one that is read was found good, and one that is refused was refused by the checks
pub read_passed : (b : List ℕ) {f : SuperBlock} → super_read b ≡ Ok f → super_check b ≡ Ok tt
unfolding super_read
read_passed b e = (given (super_check b) e).0

pub read_refused : (b : List ℕ) {x : Refusal} → super_read b ≡ Err x → super_check b ≡ Err x
unfolding super_read
read_refused b e = not_given (super_check b) (fields_of b) e
