-- The disk's own records and report: of bytes, and they show any zones that are good input.
-- Assumes nothing.
use mathlib.Core.Bool.{Bool, true, false, cond}
use mathlib.Core.List.{List, [], ◌∷◌, map, append-nil}
use mathlib.Core.Path.{◌≡◌, refl, sym, ap, ◌∙◌, subst}
use Prim.Native.Nat.{ℕ, zero, suc, ◌≤◌, ◌<◌}
use native.Mathlib.Omega.{arith}
use lib.Dec.{eqb}
use lib.ListN.{length, get_or, length-map}
use Rattle.types.specs.declared.FileKind.{FileKind}
use Rattle.types.specs.declared.FileKind.TheVariants.{Conventional, Sequential}
use Rattle.types.specs.declared.Condition.{Condition}
use Rattle.types.specs.declared.Condition.TheVariants.{Healthy, ReadOnly, Offline}
use Rattle.types.specs.Blocks.{most_zones}
use Rattle.zones.specs.declared.Zone.{Zone}
use Rattle.zones.specs.Zone.{zone_at}
use Rattle.zones.proofs.Encoded.{ReadBack, read_back, more_bytes, Bytes, record_bytes_lem, byte_at}
use Rattle.report.proofs.Encoded.{AllReadBack, ByteKinds, encoded_header, encoded_zones, encoded_bytes}
use Rattle.disk.specs.Disk.{DiskZone, is_full, no_zone, type_byte, healthy_byte, condition_byte, reported, disk_record, disk_report}
use Rattle.disk.specs.Facts.{ShowsZone, ShowsRecord, ShowsZones, Shows}
use Rattle.disk.specs.Facts as shows
use Rattle.disk.proofs.SoundZone.{SoundZone, kind_shown, reported-shows}

-- THE RECORD of a zone that is good input shows it, read back: its numbers fit their bytes, but for a pointer that means nothing.

reported_type : (z : DiskZone) → (reported z).kind ≡ type_byte z.kind
unfolding reported
reported_type z = refl

back_shows : {b : ℕ} {z : DiskZone} {r : Zone} → SoundZone b z → ReadBack (reported z) r → ShowsZone r z
back_shows {z = z} {r = r} s k =
    let w = reported-shows z in
    record {
      kind = kind_shown z.kind r (k.kind ∙ reported_type z);
      start = k.start (omega (arith, w.start, s.ends)) ∙ w.start;
      length = k.length (omega (arith, w.length, s.ends)) ∙ w.length;
      capacity = k.capacity (omega (arith, w.capacity, s.within, s.ends)) ∙ w.capacity;
      pointer = λ q c f.
          let p = w.pointer q c (ap (λ n. eqb n 14) (sym k.condition) ∙ f) in
          k.pointer (omega (arith, p, s.point q c, s.within, s.ends)) ∙ p;
      condition = rw k.condition w.condition;
    }

pub record_shown : {b : ℕ} {z : DiskZone} → SoundZone b z → ShowsRecord true (disk_record z) z
record_shown {z = z} s =
    let whole = append-nil (disk_record z) in
    record {
      long = sym (ap length whole) ∙ more_bytes (reported z) [];
      shows = back_shows s (subst (λ (l : List ℕ). ReadBack (reported z) (zone_at true l 0)) whole (read_back (reported z) []));
    }

-- ZONES THAT ARE ALL GOOD INPUT
pub data AllSound (b : ℕ) : List DiskZone → Type 0 where
  none : AllSound b []
  next : {z : DiskZone} {zs : List DiskZone} → SoundZone b z → AllSound b zs → AllSound b (z ∷ zs)

pub sound_at : {b : ℕ} {zs : List DiskZone} → AllSound b zs → (i : ℕ) → i < length zs → SoundZone b (get_or zs i no_zone)
sound_at none i h = absurd (omega arith)
sound_at (next s t) zero h = s
sound_at (next {zs = zs} s t) (suc i) h = let l : i < length zs = omega arith in sound_at t i l

zones_shown : {b : ℕ} {zs : List DiskZone} {rs : List Zone} → AllSound b zs → AllReadBack (map reported zs) rs → ShowsZones rs zs
zones_shown none AllReadBack.none = shows.none
zones_shown (next s t) (AllReadBack.next k ks) = shows.next (back_shows s k) (zones_shown t ks)

pub disk-shown : {b : ℕ} {zs : List DiskZone} → AllSound b zs → 1 ≤ length zs → length zs ≤ most_zones → Shows (disk_report zs) zs
disk-shown {zs = zs} s some few =
    let same = length-map zs reported in
    let few' : length (map reported zs) ≤ most_zones = omega (arith, same) in
    record { header = encoded_header (map reported zs) few' (omega (arith, same)); zones = zones_shown s (encoded_zones (map reported zs) few') }

-- ITS BYTES

type_small : (k : FileKind) → type_byte k < 256
type_small Conventional = omega arith
type_small Sequential = omega arith

condition_small : (c : Condition) (z : DiskZone) → condition_byte c z < 256
condition_small Healthy z = by z.kind
  where
    at : (s t : Bool) → cond s 1 (cond t 14 2) < 256
    at true t = omega arith
    at false true = omega arith
    at false false = omega arith

    by : (k : FileKind) → healthy_byte k z < 256
    by Conventional = omega arith
    by Sequential = at (eqb z.pointer z.start) (is_full z)
condition_small ReadOnly z = omega arith
condition_small Offline z = omega arith

kinds_small : (zs : List DiskZone) → ByteKinds (map reported zs)
unfolding reported
kinds_small [] = ByteKinds.none
kinds_small (z ∷ zs) = ByteKinds.next (type_small z.kind) (condition_small z.condition z) (kinds_small zs)

pub report_bytes_lem : (zs : List DiskZone) (i : ℕ) → get_or (disk_report zs) i 0 < 256
report_bytes_lem zs i = encoded_bytes (kinds_small zs) i

pub record_small : (z : DiskZone) (i : ℕ) → get_or (disk_record z) i 0 < 256
unfolding reported
record_small z i =
    byte_at (subst Bytes (append-nil (disk_record z)) (record_bytes_lem (reported z) (type_small z.kind) (condition_small z.condition z) Bytes.nil)) i
