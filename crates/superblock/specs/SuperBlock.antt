-- The super block, "the first sector": its fields, when it is refused, and what it gives.
use Rattle.std.specs.Prelude.{ℕ, ◌-◌, ◌/◌, ◌%◌, ◌^◌, Bool, false, cond, not, ◌&&◌, ◌||◌, List, [], ◌∷◌, ◌++◌, length, take, drop, replicate, leb, ltb, eqb, Ok, Err, Result}
use Rattle.types.specs.declared.Refusal.{Refusal}
use Rattle.types.specs.declared.Refusal.TheVariants.{SuperLength, SuperMagic, SuperChecksum, SuperFeatures, SuperOwner, SuperPerm, SuperTail}
use Rattle.types.specs.Answers.{Verdict}
use Rattle.types.specs.Verdicts.{refuse, giving}
use Rattle.wire.specs.Le.{le, little}
use Rattle.crc32.specs.Crc.{superblock_crc}
use Rattle.superblock.specs.declared.SuperBlock.{SuperBlock}

-- THE LAYOUT

-- "4,096 bytes"
abbrev pub super_length : ℕ
super_length = 4096

-- "magic u32 at 0"
abbrev pub magic_at : List ℕ → ℕ
magic_at b = le 4 b 0

-- "0x5A4F4653"
abbrev pub magic : ℕ
magic = 0x5A4F4653

-- "checksum u32 at 4"
abbrev pub checksum_at : List ℕ → ℕ
checksum_at b = le 4 b 4

-- "label, 64 bytes at 8"
abbrev pub label_length : ℕ
label_length = 64

abbrev pub label_at : List ℕ → List ℕ
label_at b = take label_length (drop 8 b)

-- "uuid, 16 bytes at 72, handed back whole as sixteen bytes"
abbrev pub uuid_length : ℕ
uuid_length = 16

abbrev pub uuid_at : List ℕ → List ℕ
uuid_at b = take uuid_length (drop 72 b)

-- "features u64 at 88"
abbrev pub features_at : List ℕ → ℕ
features_at b = le 8 b 88

-- "uid u32 at 96"
abbrev pub uid_at : List ℕ → ℕ
uid_at b = le 4 b 96

-- "gid u32 at 100"
abbrev pub gid_at : List ℕ → ℕ
gid_at b = le 4 b 100

-- "perm u32 at 104"
abbrev pub perm_at : List ℕ → ℕ
perm_at b = le 4 b 104

-- "108 to 4095"
abbrev pub tail_place : ℕ
tail_place = 108

abbrev pub tail_at : List ℕ → List ℕ
tail_at b = drop tail_place b

-- THE OTHER WAY ROUND: the bytes of a super block, from its checksum field, label (64 bytes), uuid, features, uid, gid and perm. The law
-- `encoded` says that each then stands at its place, and `decoded` that there are no other bytes with these at their places.
unfoldable pub encode_super : ℕ → List ℕ → List ℕ → ℕ → ℕ → ℕ → ℕ → List ℕ
encode_super checksum label uuid features uid gid perm =
    little 4 magic ++ (little 4 checksum ++ (label ++ (uuid ++ (little 8 features ++ (little 4 uid ++ (little 4 gid ++ (little 4 perm ++
    replicate (super_length - tail_place) 0)))))))

-- with the checksum of these bytes in its field, which is "taken as zero" for it
unfoldable pub super_bytes : List ℕ → List ℕ → ℕ → ℕ → ℕ → ℕ → List ℕ
super_bytes label uuid features uid gid perm =
    encode_super (superblock_crc (encode_super 0 label uuid features uid gid perm)) label uuid features uid gid perm

-- THE FEATURES

-- bit k of a number is set
abbrev pub bit : ℕ → ℕ → Bool
bit n k = eqb (n / 2 ^ k % 2) 1

-- "Feature bits: 0 aggregate conventional zones, 1 uid, 2 gid, 3 perm"
abbrev pub aggregates : ℕ → Bool
aggregates features = bit features 0

abbrev pub has_uid : ℕ → Bool
has_uid features = bit features 1

abbrev pub has_gid : ℕ → Bool
has_gid features = bit features 2

abbrev pub has_perm : ℕ → Bool
has_perm features = bit features 3

-- THE CHECKS

-- "super block length"
abbrev pub wrong_length : List ℕ → Bool
wrong_length b = not (eqb (length b) super_length)

-- "magic"
abbrev pub wrong_magic : List ℕ → Bool
wrong_magic b = not (eqb (magic_at b) magic)

-- "checksum"
abbrev pub wrong_checksum : List ℕ → Bool
wrong_checksum b = not (eqb (checksum_at b) (superblock_crc b))

-- "features beyond bit 3"
abbrev pub unknown_features : ℕ → Bool
unknown_features features = leb (2 ^ 4) features

-- "in use and 0xFFFFFFFF"
abbrev pub nobody : Bool → ℕ → Bool
nobody used id = used && eqb id 0xFFFFFFFF

-- "uid or gid in use and 0xFFFFFFFF"
abbrev pub no_owner : ℕ → ℕ → ℕ → Bool
no_owner features uid gid = nobody (has_uid features) uid || nobody (has_gid features) gid

-- 02: "With feature bit 3, a perm above 0777 (octal)"
abbrev pub wrong_perm : Bool → ℕ → Bool
wrong_perm used perm = used && ltb 0o777 perm

-- "features beyond bit 3; uid or gid in use and 0xFFFFFFFF", and 02's 33 "after 25", before what the rest finds. A formatter makes these too:
-- 02: "24 and 25 are the mount's", "K6's formatter refuses it too"
abbrev pub values_check : ℕ → ℕ → ℕ → ℕ → Verdict → Verdict
values_check features uid gid perm rest =
    refuse (unknown_features features) SuperFeatures
    (refuse (no_owner features uid gid) SuperOwner
    (refuse (wrong_perm (has_perm features) perm) SuperPerm rest))

-- a byte isn't zero
unfoldable pub nonzero : List ℕ → Bool
nonzero [] = false
nonzero (x ∷ xs) = not (eqb x 0) || nonzero xs

-- "nonzero tail"
abbrev pub nonzero_tail : List ℕ → Bool
nonzero_tail b = nonzero (tail_at b)

-- "magic, checksum", then these values, then "nonzero tail". 02: 33 is "checked after 25 and before 26"
abbrev pub fields_check : List ℕ → Verdict
fields_check b =
    refuse (wrong_magic b) SuperMagic
    (refuse (wrong_checksum b) SuperChecksum
    (values_check (features_at b) (uid_at b) (gid_at b) (perm_at b)
    (refuse (nonzero_tail b) SuperTail (Ok tt))))

-- and "super block length" before them
unfoldable pub super_check : List ℕ → Verdict
super_check b = refuse (wrong_length b) SuperLength (fields_check b)

-- WHAT IT GIVES

-- "Without its bit a field is ignored: owner and group 0"
abbrev pub id_of : Bool → ℕ → ℕ
id_of used id = cond used id 0

-- "mode 0640". With bit 3 the mode is perm itself: 02 "amends 01's low nine bits" by refusing a perm that has others
abbrev pub mode_of : Bool → ℕ → ℕ
mode_of used perm = cond used perm 0o640

unfoldable pub fields_of : List ℕ → SuperBlock
fields_of b =
    record {
      aggregate = aggregates (features_at b);
      owner = id_of (has_uid (features_at b)) (uid_at b);
      group = id_of (has_gid (features_at b)) (gid_at b);
      mode = mode_of (has_perm (features_at b)) (perm_at b);
      uuid = uuid_at b;
    }

-- what it gives where the checks are passed
unfoldable pub super_read : List ℕ → Result SuperBlock Refusal
super_read b = giving (super_check b) (fields_of b)

-- what was found of it alone
abbrev pub found_in : Result SuperBlock Refusal → Verdict
found_in (Ok f) = Ok tt
found_in (Err x) = Err x

-- its fields: of a refused one none are used, and they are all zero
abbrev pub no_fields : SuperBlock
no_fields = record { aggregate = false; owner = 0; group = 0; mode = 0; uuid = replicate uuid_length 0 }

abbrev pub fields_in : Result SuperBlock Refusal → SuperBlock
fields_in (Ok f) = f
fields_in (Err x) = no_fields
