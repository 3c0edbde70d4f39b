-- The formatter. 02: "Write the super block from label, uuid, features, owner, group and mode, and say whether zone 0 must first be finished".
use Rattle.std.specs.Prelude.{ℕ, ◌-◌, List, [], ◌∷◌, ◌++◌, Bool, not, ◌&&◌, length, replicate, ltb, eqb, Result, Ok, Err, None}
use Rattle.types.specs.declared.Refusal.{Refusal}
use Rattle.types.specs.declared.Refusal.TheVariants.{BadBlock, SuperLength, LabelLength, BadZone}
use Rattle.types.specs.Answers.{Verdict}
use Rattle.types.specs.Answers.{FormatAnswer}
use Rattle.types.specs.Blocks.{bytes_of, block_sectors, good_block}
use Rattle.types.specs.Verdicts.{refuse, giving}
use Rattle.superblock.specs.SuperBlock.{label_length, label_at, uuid_at, features_at, uid_at, gid_at, perm_at, super_bytes, wrong_length, values_check, super_check}
use Rattle.zones.specs.declared.Zone.{Zone}
use Rattle.zones.specs.Zone.{zone_bytes, zone_at, sequential, healthy, written_size}
use Rattle.report.specs.Report.{zones_check}
use Rattle.format.specs.declared.SuperFields.{SuperFields}

-- ---- zone 0

-- "yes exactly if its .. record .. is sequential, healthy and below capacity in size"
abbrev pub must_finish : Zone → Bool
must_finish z = sequential z && healthy z && ltb (written_size z) (bytes_of z.capacity)

-- "its lent 64-byte record, checked as a report's first", "a bad one answers 29", with zone 0 and K12's reason. Bytes that are no record have
-- no field to name: reason 0
unfoldable pub record_check : ℕ → Bool → List ℕ → Verdict
record_check unit given zone =
    refuse (not (eqb (length zone) zone_bytes)) (BadZone 0 None) (zones_check unit 0 0 (zone_at given zone 0 ∷ []))

-- ---- what is written

-- "A shorter label is zero-filled."
abbrev pub filled : List ℕ → List ℕ
filled label = label ++ replicate (label_length - length label) 0

-- "Write the super block from label, uuid, features, owner, group and mode": as they are given, also without their bit. What is given is told by the
-- same record as what is read; of what is given the label may have any length
abbrev pub block_of : SuperFields → List ℕ
block_of v = super_bytes (filled v.label) v.uuid v.features v.owner v.group v.mode

-- ---- the checks, and what they leave

-- "A lent block not of 4,096 bytes answers 21, a label longer than 64 bytes 34; 20, 24 and 25 are the mount's, the order is 20, 21, 24, 25, 34,
-- 29", and 33 is checked "before 34"
unfoldable pub format_check : ℕ → List ℕ → SuperFields → Bool → List ℕ → Verdict
format_check block lent v given zone =
    refuse (not (good_block block)) BadBlock
    (refuse (wrong_length lent) SuperLength
    (values_check v.features v.owner v.group v.mode
    (refuse (ltb label_length (length v.label)) LabelLength
    (record_check (block_sectors block) given zone))))

-- the answer, and the lent block after it
pub record Formatting : Type 0 where
  pub answer : FormatAnswer
  pub block : List ℕ

-- "all before a byte is written": a refusal leaves the lent block as it was
abbrev pub format_as : Verdict → List ℕ → SuperFields → Zone → Formatting
format_as (Ok tt) lent v z = record { answer = Ok (must_finish z); block = block_of v }
format_as (Err x) lent v z = record { answer = Err x; block = lent }

unfoldable pub format_outcome : ℕ → List ℕ → SuperFields → Bool → List ℕ → Formatting
format_outcome block lent v given zone = format_as (format_check block lent v given zone) lent v (zone_at given zone 0)

-- ---- "every accepted block, read": label, uuid, features, owner, group and mode as they stand

unfoldable pub fields_at : List ℕ → SuperFields
fields_at b =
    record {
      label = label_at b;
      uuid = uuid_at b;
      features = features_at b;
      owner = uid_at b;
      group = gid_at b;
      mode = perm_at b;
    }

-- what reading gives: the fields, or the refusal of the mount's checks
abbrev pub FieldsRead : Type 0
FieldsRead = Result SuperFields Refusal

-- a mount's checks of the super block, and the fields where they are passed
unfoldable pub fields_read : List ℕ → FieldsRead
fields_read b = giving (super_check b) (fields_at b)
