-- The formatter's promises hold.
-- Assumes nothing.
use Rattle.types.specs.declared.Refusal.{Refusal}
use Rattle.std.specs.Prelude.{Ok, Err, Result}
use Prim.Native.Nat.{ℕ, ◌-◌, ◌<◌}
use native.Mathlib.Omega.{arith}
use mathlib.Core.Path.{◌≡◌, refl, ap, ◌∙◌}
use mathlib.Core.Bool.{Bool, true}
use mathlib.Core.List.{List, ◌++◌, append-nil}
use lib.ListN.{length, get_or, drop, replicate, length-drop}
use lib.Seq.{length-take-le}
use Rattle.types.specs.Answers.{Verdict}
use Rattle.types.specs.Blocks.{block_sectors, good_block}
use Rattle.table.specs.Rows.{rows_lent}
use Rattle.wire.proofs.Laws.{append_bytes}
use Rattle.superblock.specs.declared.SuperBlock.{SuperBlock}
use Rattle.superblock.specs.SuperBlock.{super_length, label_length, label_at, super_bytes, aggregates, super_check, super_read, fields_in}
use Rattle.superblock.proofs.Bounds.{zero_bytes}
use Rattle.superblock.proofs.Told.{values_pass, super_told}
use Rattle.superblock.proofs.Written as written
use Rattle.options.specs.Options.{options_of}
use Rattle.zones.specs.declared.Zone.{Zone}
use Rattle.zones.specs.Zone.{zone_at}
use Rattle.files.specs.Files.{cnv_rows, seq_rows}
use Rattle.mount.specs.Fill.{fill}
use Rattle.mount.specs.Mount.{Mounting, file_zones, mount_check, answer_for, mount_answer_of, mount_of, table_after, aggregated, mount_answer, mount_outcome}
use Rattle.format.specs.declared.SuperFields.{SuperFields}
use Rattle.format.specs.Format.{record_check, filled, block_of, format_check, format_as, format_outcome, fields_at, fields_read}
use Rattle.format.specs.Promises.{Typed, AllElseGood, MountsWith, WrittenMounts, MountThere, as_given, WrittenRead, ReadWritten}
use Rattle.format.proofs.Alone.{mounts_alone}
use Rattle.format.proofs.Bytes.{filled-length}
use Rattle.format.proofs.Checks.{Told, format_told, format_passes}

-- A MOUNT of a super block that is found good, all else good

mounts : (unit : ℕ) (superblock options report : List ℕ) (open_limit active_limit : ℕ) (cnv seq : List ℕ) (f : SuperBlock) → super_read superblock ≡ Ok f
    → mount_check unit (Ok tt) (options_of options) f.aggregate report (rows_lent (length cnv)) (rows_lent (length seq)) ≡ Ok tt
    → mount_outcome unit superblock options report open_limit active_limit cnv seq ≡ record {
      answer = Ok (length (cnv_rows f.aggregate (file_zones report)), length (seq_rows (file_zones report)));
      mount =
          mount_of (Ok (length (cnv_rows f.aggregate (file_zones report)), length (seq_rows (file_zones report)))) unit f (options_of options) open_limit active_limit
          (fill seq (seq_rows (file_zones report)));
      cnv = fill cnv (cnv_rows f.aggregate (file_zones report));
      seq = fill seq (seq_rows (file_zones report));
    }
unfolding mount_outcome mount_answer mount_answer_of answer_for table_after
mounts unit superblock options report open_limit active_limit cnv seq f r p =
    let bit : aggregated superblock ≡ f.aggregate = ap (λ (x : Result SuperBlock Refusal). (fields_in x).aggregate) r in
    rw (r, bit, p)

-- AN ANSWER OF 0 comes after checks that found nothing, and with the block written

formatted : (x : Verdict) (lent : List ℕ) (v : SuperFields) (z : Zone) (finish : Bool) → (format_as x lent v z).answer ≡ Ok finish → (x ≡ Ok tt) × ((format_as x lent v z).block ≡ block_of v)
formatted (Ok tt) lent v z finish e = (refl, refl)
formatted (Err r) lent v z finish e = let z : ◌≡◌ {A = ℕ} 0 1 = cc in absurd (omega arith)

module _ (block : ℕ) (lent zone : List ℕ) (v : SuperFields) (given finish : Bool) (e : (format_outcome block lent v given zone).answer ≡ Ok finish) where
  done : (format_check block lent v given zone ≡ Ok tt) × ((format_outcome block lent v given zone).block ≡ block_of v)
  unfolding format_outcome
  done = formatted (format_check block lent v given zone) lent v (zone_at given zone 0) finish e

  told : Told block lent v given zone
  told = format_told block lent v given zone done.0

  module _ (t : Typed v) where
    typed : written.Typed (filled v.label) v.uuid v.features v.owner v.group v.mode
    typed =
        record {
          label_size = filled-length v.label told.short;
          label_bytes = append_bytes v.label (replicate (label_length - length v.label) 0) t.label (zero_bytes (label_length - length v.label));
          uuid_size = t.sixteen;
          uuid_bytes = t.uuid;
          features_small = t.features;
          uid_small = t.owner;
          gid_small = t.group;
          perm_small = t.mode;
        }

    read : super_read (format_outcome block lent v given zone).block ≡ super_read (block_of v)
    read = ap super_read done.1

    mounted : (unit : ℕ) (options report : List ℕ) (open_limit active_limit : ℕ) (cnv seq : List ℕ) → AllElseGood unit options v.features report cnv seq
        → MountsWith v report cnv seq (mount_outcome unit (format_outcome block lent v given zone).block options report open_limit active_limit cnv seq)
    unfolding mount_of
    mounted unit options report open_limit active_limit cnv seq p =
        let whole = mounts unit _ options report open_limit active_limit cnv seq _ (read ∙ written.written_read _ _ _ _ _ _ typed told.values) p in
        record {
          answer = ap (λ (o : Mounting). o.answer) whole;
          uuid = ap (λ (o : Mounting). o.mount.volume.uuid) whole;
          owner = ap (λ (o : Mounting). o.mount.volume.owner) whole;
          group = ap (λ (o : Mounting). o.mount.volume.group) whole;
          mode = ap (λ (o : Mounting). o.mount.volume.mode) whole;
          cnv = ap (λ (o : Mounting). o.cnv) whole;
          seq = ap (λ (o : Mounting). o.seq) whole;
        }

    read_back : fields_read (format_outcome block lent v given zone).block ≡ as_given v
    unfolding fields_read fields_at super_bytes
    read_back =
        let h = written.holds _ _ _ _ _ _ typed in
        rw (done.1, written.written_check _ _ _ _ _ _ typed ∙ values_pass told.values refl, h.label_is, h.uuid-is, h.features_is, h.uid_is, h.gid_is, h.perm_is)

pub written_mounts : WrittenMounts
unfolding WrittenMounts
written_mounts block lent zone v given finish t e unit options report open_limit active_limit cnv seq p =
    mounted block lent zone v given finish e t unit options report open_limit active_limit cnv seq p

pub mount_there : MountThere
unfolding MountThere
mount_there block lent zone v given finish e =
    let t = told block lent zone v given finish e in
    mounts_alone block given zone t.unit t.first (aggregates v.features)

-- READ BACK

pub written_read : WrittenRead
unfolding WrittenRead
written_read block lent zone v given finish t e = read_back block lent zone v given finish e t

-- READ, AND WRITTEN AGAIN

-- a label of 64 bytes is as it is
whole_label : (label : List ℕ) → length label ≡ label_length → filled label ≡ label
whole_label label e =
    let none : label_length - length label ≡ 0 = omega arith in
    ap (λ (n : ℕ). label ++ replicate n 0) none ∙ append-nil label

module _ (b : List ℕ) (bytes : (k : ℕ) → get_or b k 0 < 256) (accepted : super_check b ≡ Ok tt) where
  label_length_lem : length (label_at b) ≡ label_length
  label_length_lem = length-take-le label_length (drop 8 b) (omega (arith, length-drop 8 b, (super_told b accepted).size))

  same_block : block_of (fields_at b) ≡ b
  unfolding fields_at
  same_block = rw (whole_label (label_at b) label_length_lem) (written.written_again b bytes accepted)

  passes : (block : ℕ) (lent zone : List ℕ) (given : Bool) → good_block block ≡ true → length lent ≡ super_length → record_check (block_sectors block) given zone ≡ Ok tt
      → format_check block lent (fields_at b) given zone ≡ Ok tt
  unfolding fields_at
  passes block lent zone given unit size first =
      format_passes block lent (fields_at b) given zone (record {
        unit = unit;
        size = size;
        values = (super_told b accepted).values;
        short = omega (arith, label_length_lem);
        first = first;
      })

pub read_written : ReadWritten
unfolding ReadWritten fields_read format_outcome
read_written b bytes accepted block lent zone given unit size first =
    (rw accepted, rw (passes b bytes accepted block lent zone given unit size first, same_block b bytes accepted))
