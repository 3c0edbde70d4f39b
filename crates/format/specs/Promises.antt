-- The formatter's promises. 02: "Every block written mounts, all else good, with exactly the values given, those without their bit ignored ..,
-- and every accepted block, read and written again, is the same bytes."
use Rattle.std.specs.Prelude.{ℕ, ◌^◌, ◌<◌, ◌≡◌, List, [], ◌++◌, Bool, true, length, get_or, Ok}
use Rattle.types.specs.Blocks.{block_sectors, good_block}
use Rattle.types.specs.Codes.{flag_code}
use Rattle.wire.specs.Le.{little}
use Rattle.table.specs.Rows.{rows_lent}
use Rattle.superblock.specs.SuperBlock.{super_length, uuid_length, aggregates, has_uid, has_gid, has_perm, super_check, id_of, mode_of}
use Rattle.options.specs.Options.{options_of}
use Rattle.zones.specs.Zone.{zone_at}
use Rattle.files.specs.Files.{cnv_rows, seq_rows}
use Rattle.mount.specs.Fill.{fill}
use Rattle.mount.specs.Mount.{Mounting, file_zones, mount_check, mount_outcome}
use Rattle.format.specs.declared.SuperFields.{SuperFields}
use Rattle.format.specs.Format.{FieldsRead, must_finish, record_check, filled, format_outcome, fields_at, fields_read}

-- what the types of the given values say: label and uuid are bytes, sixteen of them the uuid, and the numbers have 64 and 32 bits
pub record Typed (v : SuperFields) : Type 0 where
  pub label : (k : ℕ) → get_or v.label k 0 < 256
  pub uuid : (k : ℕ) → get_or v.uuid k 0 < 256
  pub sixteen : length v.uuid ≡ uuid_length
  pub features : v.features < 2 ^ 64
  pub owner : v.owner < 2 ^ 32
  pub group : v.group < 2 ^ 32
  pub mode : v.mode < 2 ^ 32

-- "with exactly the values given, those without their bit ignored": uuid whole, owner, group and mode by their bits, aggregation by bit 0
pub record MountsWith (v : SuperFields) (report cnvs seqs : List ℕ) (o : Mounting) : Type 0 where
  pub answer : o.answer ≡ Ok (length (cnv_rows (aggregates v.features) (file_zones report)), length (seq_rows (file_zones report)))
  pub uuid : o.mount.volume.uuid ≡ v.uuid
  pub owner : o.mount.volume.owner ≡ id_of (has_uid v.features) v.owner
  pub group : o.mount.volume.group ≡ id_of (has_gid v.features) v.group
  pub mode : o.mount.volume.mode ≡ mode_of (has_perm v.features) v.mode
  pub cnv : o.cnv ≡ fill cnvs (cnv_rows (aggregates v.features) (file_zones report))
  pub seq : o.seq ≡ fill seqs (seq_rows (file_zones report))

-- "all else good": with a super block that is found good, no check of the mount fails
abbrev pub AllElseGood : ℕ → List ℕ → ℕ → List ℕ → List ℕ → List ℕ → Type 0
AllElseGood mountBlock options features report cnv seq =
    mount_check mountBlock (Ok tt) (options_of options) (aggregates features) report (rows_lent (length cnv)) (rows_lent (length seq)) ≡ Ok tt

-- "Every block written mounts, all else good", whatever the limits
unfoldable pub WrittenMounts : Type 0
WrittenMounts =
    (block : ℕ) (lent zone : List ℕ) (v : SuperFields) (given finish : Bool) → Typed v → let o = format_outcome block lent v given zone in
    o.answer ≡ Ok finish → (mountBlock : ℕ) (options report : List ℕ) (open_limit active_limit : ℕ) (cnv seq : List ℕ)
    → AllElseGood mountBlock options v.features report cnv seq
    → MountsWith v report cnv seq (mount_outcome mountBlock o.block options report open_limit active_limit cnv seq)

-- the report of a disk that is zone 0 alone
abbrev pub alone : Bool → List ℕ → List ℕ
alone given zone = little 8 0 ++ (little 4 1 ++ (little 4 (flag_code given) ++ zone))

-- for each there is such a mount: of that disk, by the record and the flag that it was formatted with
unfoldable pub MountThere : Type 0
MountThere =
    (block : ℕ) (lent zone : List ℕ) (v : SuperFields) (given finish : Bool) → (format_outcome block lent v given zone).answer ≡ Ok finish
    → AllElseGood block [] v.features (alone given zone) [] []

-- what is read of values as they were given, the label zero-filled
abbrev pub as_given : SuperFields → FieldsRead
as_given v =
    Ok (record {
      label = filled v.label;
      uuid = v.uuid;
      features = v.features;
      owner = v.owner;
      group = v.group;
      mode = v.mode;
    })

-- and every block written is read so
unfoldable pub WrittenRead : Type 0
WrittenRead =
    (block : ℕ) (lent zone : List ℕ) (v : SuperFields) (given finish : Bool) → Typed v → let o = format_outcome block lent v given zone in
    o.answer ≡ Ok finish → fields_read o.block ≡ as_given v

-- "every accepted block, read and written again, is the same bytes", accepted by the mount's checks of it; with a good block size, a lent block
-- of 4,096 bytes and a good record
unfoldable pub ReadWritten : Type 0
ReadWritten =
    (b : List ℕ) → ((k : ℕ) → get_or b k 0 < 256) → super_check b ≡ Ok tt → (block : ℕ) (lent zone : List ℕ) (given : Bool) → good_block block ≡ true
    → length lent ≡ super_length → record_check (block_sectors block) given zone ≡ Ok tt
    → (fields_read b ≡ Ok (fields_at b)) × (format_outcome block lent (fields_at b) given zone ≡ record { answer = Ok (must_finish (zone_at given zone 0)); block = b })
