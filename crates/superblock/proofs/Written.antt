-- A super block that is written from values holds them and is accepted exactly if they are, and one that is accepted is what is written from
-- its own values.
-- Assumes nothing.
use Rattle.std.specs.Prelude.{Ok}
use Prim.Native.Nat.{ℕ, ◌+◌, ◌-◌, ◌^◌, ◌≤◌, ◌<◌}
use native.Mathlib.Omega.{arith}
use mathlib.Core.Path.{◌≡◌, refl, ap, sym, ◌∙◌}
use mathlib.Core.Bool.{false, not}
use mathlib.Core.List.{List, [], ◌∷◌, ◌++◌}
use lib.Dec.{eqb}
use lib.ListN.{length, get_or, drop, replicate, length-drop}
use borrow.Author.Tests.{eq-eqb, eqb-true, not-false}
use Rattle.types.specs.declared.Refusal.TheVariants.{SuperLength, SuperMagic, SuperChecksum, SuperTail}
use Rattle.types.specs.Verdicts.{refuse}
use Rattle.types.proofs.VerdictLaws.{check_passes}
use Rattle.types.proofs.Tests.{or_left, or_right}
use Rattle.wire.specs.Le.{le, little}
use Rattle.wire.proofs.Laws.{little-le, joined}
use Rattle.crc32.specs.Crc.{superblock_crc}
use Rattle.superblock.specs.SuperBlock.{super_length, magic_at, magic, checksum_at, label_length, label_at, uuid_at, features_at, uid_at, gid_at, perm_at, tail_place, encode_super, aggregates, has_uid, has_gid, has_perm, super_bytes, values_check, nonzero, nonzero_tail, super_check, id_of, mode_of, fields_of, super_read}
use Rattle.superblock.proofs.Told.{GoodValues, values_pass, super_told}
use Rattle.superblock.proofs.Encoded.{Holds, encoded, checksum_of, checksum_small}

-- WRITTEN

module _ (label uuid : List ℕ) (features uid gid perm : ℕ) where
  abbrev sum : ℕ
  sum = superblock_crc (encode_super 0 label uuid features uid gid perm)

  -- the checksum doesn't depend on what its field holds
  sum_is : (c : ℕ) → superblock_crc (encode_super c label uuid features uid gid perm) ≡ sum
  sum_is c = checksum_of c label uuid features uid gid perm ∙ sym (checksum_of 0 label uuid features uid gid perm)

  -- what the types of the values say
  pub record Typed : Type 0 where
    pub label_size : length label ≡ label_length
    pub label_bytes : (k : ℕ) → get_or label k 0 < 256
    pub uuid_size : length uuid ≡ 16
    pub uuid_bytes : (k : ℕ) → get_or uuid k 0 < 256
    pub features_small : features < 2 ^ 64
    pub uid_small : uid < 2 ^ 32
    pub gid_small : gid < 2 ^ 32
    pub perm_small : perm < 2 ^ 32

  module _ (t : Typed) where
    pub holds : Holds sum label uuid features uid gid perm
    holds =
        encoded sum label uuid features uid gid perm (checksum_small 0 label uuid features uid gid perm t.label_bytes t.uuid_bytes)
        t.label_size t.uuid_size t.features_small t.uid_small t.gid_small t.perm_small

    pub written_check : super_check (super_bytes label uuid features uid gid perm) ≡ values_check features uid gid perm (Ok tt)
    unfolding super_check super_bytes
    written_check =
        let tail : refuse (nonzero_tail (encode_super sum label uuid features uid gid perm)) SuperTail (Ok tt) ≡ (Ok tt) = check_passes SuperTail holds.tail_zero refl in
        check_passes SuperLength (ap not (eq-eqb _ _ holds.size))
        (check_passes SuperMagic (ap not (eq-eqb _ _ holds.magic-is))
        (check_passes SuperChecksum (ap not (eq-eqb _ _ (holds.checksum_is ∙ sym (sum_is sum))))
        (rw (holds.features_is, holds.uid_is, holds.gid_is, holds.perm_is, tail))))

    -- and what a mount reads then: the values, those without their bit ignored
    pub written_read : GoodValues features uid gid perm → super_read (super_bytes label uuid features uid gid perm) ≡ Ok (record {
      aggregate = aggregates features;
      owner = id_of (has_uid features) uid;
      group = id_of (has_gid features) gid;
      mode = mode_of (has_perm features) perm;
      uuid = uuid;
    })
    unfolding super_read fields_of super_bytes
    written_read good =
        rw (written_check ∙ values_pass good refl, holds.features_is, holds.uid_is, holds.gid_is, holds.perm_is, holds.uuid-is)

-- READ, AND WRITTEN AGAIN

zeros_only : (l : List ℕ) → nonzero l ≡ false → l ≡ replicate (length l) 0
unfolding nonzero
zeros_only [] h = refl
zeros_only (x ∷ l) h =
    let test = not (eqb x 0) in
    let here : x ≡ 0 = eqb-true x 0 (not-false (eqb x 0) (or_left test (nonzero l) h)) in
    ap (λ (n : ℕ). n ∷ l) here ∙ ap (λ (m : List ℕ). 0 ∷ m) (zeros_only l (or_right test (nonzero l) h))

module _ (b : List ℕ) (bytes : (k : ℕ) → get_or b k 0 < 256) (size : length b ≡ super_length) where
  -- a number of n bytes and what stands behind it
  number : (n at : ℕ) (rest : List ℕ) → at + n ≤ length b → rest ≡ drop (at + n) b → little n (le n b at) ++ rest ≡ drop at b
  number n at rest h e = joined b (little n (le n b at)) rest at n (little-le n b at bytes h) e

  pub decoded : magic_at b ≡ magic → nonzero_tail b ≡ false → encode_super (checksum_at b) (label_at b) (uuid_at b) (features_at b) (uid_at b) (gid_at b) (perm_at b) ≡ b
  unfolding encode_super
  decoded m t =
      let count : length (drop tail_place b) ≡ super_length - tail_place = omega (arith, length-drop tail_place b) in
      let tail : replicate (super_length - tail_place) 0 ≡ drop tail_place b = sym (zeros_only (drop tail_place b) t ∙ ap (λ (n : ℕ). replicate n 0) count) in
      let at-uid = number 4 96 _ (omega arith) (number 4 100 _ (omega arith) (number 4 104 _ (omega arith) tail)) in
      let at-uuid = joined b _ _ 72 16 refl (number 8 88 _ (omega arith) at-uid) in
      let at_label = joined b _ _ 8 label_length refl at-uuid in
      joined b _ _ 0 4 (ap (little 4) (sym m) ∙ little-le 4 b 0 bytes (omega arith)) (number 4 4 _ (omega arith) at_label)

module _ (b : List ℕ) (bytes : (k : ℕ) → get_or b k 0 < 256) (passed : super_check b ≡ Ok tt) where
  pub written_again : super_bytes (label_at b) (uuid_at b) (features_at b) (uid_at b) (gid_at b) (perm_at b) ≡ b
  unfolding super_bytes
  written_again =
      let t = super_told b passed in
      let same = decoded b bytes t.size t.magic-is t.tail_zero in
      let encode : ℕ → List ℕ = λ c. encode_super c (label_at b) (uuid_at b) (features_at b) (uid_at b) (gid_at b) (perm_at b) in
      let sum = sym (sum_is (label_at b) (uuid_at b) (features_at b) (uid_at b) (gid_at b) (perm_at b) (checksum_at b)) ∙ ap superblock_crc same ∙ sym t.checksum_is in
      ap encode sum ∙ same
