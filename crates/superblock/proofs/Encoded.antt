-- The bytes of a super block hold what they were made from, each at its place.
-- Assumes nothing.
use Prim.Native.Nat.{ℕ, zero, suc, ◌+◌, ◌-◌, ◌^◌, ◌<◌}
use native.Mathlib.Omega.{arith}
use mathlib.Core.Path.{◌≡◌, refl, ap, sym, subst, ◌∙◌}
use mathlib.Core.Bool.{false}
use mathlib.Core.List.{List, [], ◌∷◌, ◌++◌}
use lib.ListN.{length, get_or, take, drop, replicate, length-drop, length-replicate}
use lib.Seq.{take_at}
use Rattle.wire.specs.Le.{little}
use Rattle.crc32.specs.Crc.{crc32, superblock_crc}
use Rattle.crc32.proofs.Below.{checksum_below}
use Rattle.wire.proofs.Laws.{length-little, little_bytes, append_bytes, next_part_lem, number_at}
use Rattle.superblock.specs.SuperBlock.{super_length, magic_at, magic, checksum_at, label_length, label_at, uuid_at, features_at, uid_at, gid_at, perm_at, tail_place, encode_super, nonzero, nonzero_tail}
use Rattle.superblock.proofs.Bounds.{zero_bytes}

nonzero_zeros : (n : ℕ) → nonzero (replicate n 0) ≡ false
unfolding nonzero
nonzero_zeros zero = refl
nonzero_zeros (suc n) = nonzero_zeros n

module _ (checksum : ℕ) (label uuid : List ℕ) (features uid gid perm : ℕ) where
  abbrev pub block : List ℕ
  block = encode_super checksum label uuid features uid gid perm

  -- what stands from each field on
  abbrev zeros : List ℕ
  zeros = replicate (super_length - tail_place) 0

  abbrev from_perm : List ℕ
  from_perm = little 4 perm ++ zeros

  abbrev from_gid : List ℕ
  from_gid = little 4 gid ++ from_perm

  abbrev from_uid : List ℕ
  from_uid = little 4 uid ++ from_gid

  abbrev from_features : List ℕ
  from_features = little 8 features ++ from_uid

  abbrev from_uuid : List ℕ
  from_uuid = uuid ++ from_features

  abbrev from_checksum : List ℕ
  from_checksum = little 4 checksum ++ (label ++ from_uuid)

  at_magic : drop 0 block ≡ little 4 magic ++ from_checksum
  unfolding encode_super
  at_magic = refl

  pub record Holds : Type 0 where
    pub size : length block ≡ super_length
    pub magic-is : magic_at block ≡ magic
    pub checksum_is : checksum_at block ≡ checksum
    pub label_is : label_at block ≡ label
    pub uuid-is : uuid_at block ≡ uuid
    pub features_is : features_at block ≡ features
    pub uid_is : uid_at block ≡ uid
    pub gid_is : gid_at block ≡ gid
    pub perm_is : perm_at block ≡ perm
    pub tail_zero : nonzero_tail block ≡ false

  -- a number's bytes, and then the rest
  after : (at n v : ℕ) (rest : List ℕ) → drop at block ≡ little n v ++ rest → drop (at + n) block ≡ rest
  after at n v rest = next_part_lem block (little n v) rest at n (length-little n v)

  pub encoded : checksum < 2 ^ 32 → length label ≡ label_length → length uuid ≡ 16 → features < 2 ^ 64 → uid < 2 ^ 32 → gid < 2 ^ 32 → perm < 2 ^ 32 → Holds
  encoded c l u f i g p =
      let at-checksum = after 0 4 magic from_checksum at_magic in
      let at_label = after 4 4 checksum (label ++ from_uuid) at-checksum in
      let at-uuid = next_part_lem block label from_uuid 8 label_length l at_label in
      let at-features = next_part_lem block uuid from_features 72 16 u at-uuid in
      let at-uid = after 88 8 features from_uid at-features in
      let at-gid = after 96 4 uid from_gid at-uid in
      let at-perm = after 100 4 gid from_perm at-gid in
      let at_tail = after 104 4 perm zeros at-perm in
      record {
        size = omega (arith, length-drop tail_place block, ap length at_tail ∙ length-replicate {A = ℕ} (super_length - tail_place) 0);
        magic-is = number_at block from_checksum 0 4 magic (omega arith) at_magic;
        checksum_is = number_at block (label ++ from_uuid) 4 4 checksum c at-checksum;
        label_is = ap (take label_length) at_label ∙ take_at label from_uuid label_length l;
        uuid-is = ap (take 16) at-uuid ∙ take_at uuid from_features 16 u;
        features_is = number_at block from_uid 88 8 features f at-features;
        uid_is = number_at block from_gid 96 4 uid i at-uid;
        gid_is = number_at block from_perm 100 4 gid g at-gid;
        perm_is = number_at block zeros 104 4 perm p at-perm;
        tail_zero = ap nonzero at_tail ∙ nonzero_zeros (super_length - tail_place);
      }

  -- the checksum, for which its own field is taken as zero: whatever that field holds
  pub checksum_of : superblock_crc block ≡ crc32 (little 4 magic ++ (0 ∷ 0 ∷ 0 ∷ 0 ∷ []) ++ (label ++ from_uuid))
  unfolding superblock_crc encode_super
  checksum_of =
      let behind = after 4 4 checksum (label ++ from_uuid) (after 0 4 magic from_checksum at_magic) in
      ap (λ (l : List ℕ). crc32 (l ++ (0 ∷ 0 ∷ 0 ∷ 0 ∷ []) ++ drop 8 block)) (take_at (little 4 magic) from_checksum 4 (length-little 4 magic))
      ∙ ap (λ (l : List ℕ). crc32 (little 4 magic ++ (0 ∷ 0 ∷ 0 ∷ 0 ∷ []) ++ l)) behind

  -- it has 32 bits
  pub checksum_small : ((k : ℕ) → get_or label k 0 < 256) → ((k : ℕ) → get_or uuid k 0 < 256) → superblock_crc block < 2 ^ 32
  checksum_small l u =
      let start : List ℕ = little 4 magic ++ (0 ∷ 0 ∷ 0 ∷ 0 ∷ []) in
      let at-perm = append_bytes (little 4 perm) zeros (little_bytes 4 perm) (zero_bytes (super_length - tail_place)) in
      let at-uid = append_bytes (little 4 uid) from_gid (little_bytes 4 uid) (append_bytes (little 4 gid) from_perm (little_bytes 4 gid) at-perm) in
      let at-uuid = append_bytes uuid from_features u (append_bytes (little 8 features) from_uid (little_bytes 8 features) at-uid) in
      let at_start = append_bytes (little 4 magic) (0 ∷ 0 ∷ 0 ∷ 0 ∷ []) (little_bytes 4 magic) (zero_bytes 4) in
      let all = append_bytes start (label ++ from_uuid) at_start (append_bytes label from_uuid l at-uuid) in
      subst (λ (n : ℕ). n < 2 ^ 32) (sym checksum_of) (checksum_below (start ++ (label ++ from_uuid)) all)
