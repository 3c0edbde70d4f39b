-- The tests of what is shown, and what they tell, in both directions.
-- Assumes nothing.
use mathlib.Core.Bool.{Bool, true, not, ◌&&◌, ◌||◌, false≢true}
use mathlib.Core.List.{List, [], ◌∷◌}
use mathlib.Core.Path.{◌≡◌, refl}
use Prim.Native.Nat.{ℕ}
use lib.Dec.{eqb}
use lib.ListN.{length}
use borrow.Author.Tests.{eqb-true, eq-eqb, not-true}
use Rattle.types.specs.Predicates.{is_healthy}
use Rattle.types.proofs.Tests.{both, and_left, and_right, means_in, means_out}
use Rattle.zones.specs.declared.Zone.{Zone}
use Rattle.zones.specs.Zone.{zone_bytes, full}
use Rattle.report.specs.Report.{good_header, zones_of}
use Rattle.disk.specs.Disk.{DiskZone, has_pointer}
use Rattle.disk.specs.Shows.{shows_kind, shows_condition, shows_zone, shows_record, shows_zones, shows}
use Rattle.disk.specs.Facts.{ShowsZone, ShowsRecord, ShowsZones, none, next, Shows}
use Rattle.disk.proofs.Conditions.{healthy-is, sequential-is}

module _ {r : Zone} {z : DiskZone} where
  pub zone-told : shows_zone r z ≡ true → ShowsZone r z
  unfolding shows_zone
  zone-told e =
      let kind : shows_kind z.kind r ≡ true = search (and_left, and_right) depth 9 in
      let start : eqb r.start z.start ≡ true = search (and_left, and_right) depth 9 in
      let length : eqb r.length z.length ≡ true = search (and_left, and_right) depth 9 in
      let capacity : eqb r.capacity z.capacity ≡ true = search (and_left, and_right) depth 9 in
      let pointer : not (has_pointer z && not (full r)) || eqb r.pointer z.pointer ≡ true = search (and_left, and_right) depth 9 in
      let condition : shows_condition z.condition z r.condition ≡ true = search (and_left, and_right) depth 9 in
      record {
        kind = kind;
        start = eqb-true _ _ start;
        length = eqb-true _ _ length;
        capacity = eqb-true _ _ capacity;
        pointer = λ k c f. eqb-true _ _ (means_out (has_pointer z && not (full r)) _ pointer (rw (k, c, f)));
        condition = condition;
      }

  pub zone-shows : ShowsZone r z → shows_zone r z ≡ true
  unfolding shows_zone
  zone-shows w =
      both (both (both w.kind (both (both (eq-eqb _ _ w.start) (eq-eqb _ _ w.length)) (eq-eqb _ _ w.capacity)))
      (means_in (has_pointer z && not (full r)) _ points))
      w.condition
    where
      points : has_pointer z && not (full r) ≡ true → eqb r.pointer z.pointer ≡ true
      points h =
          let p = and_left (has_pointer z) _ h in
          let kind = sequential-is z.kind (and_right (is_healthy z.condition) _ p) in
          let condition = healthy-is z.condition (and_left _ _ p) in
          eq-eqb _ _ (w.pointer kind condition (not-true (full r) (and_right (has_pointer z) _ h)))

pub zones_told : (rs : List Zone) (zs : List DiskZone) → shows_zones rs zs ≡ true → ShowsZones rs zs
unfolding shows_zones
zones_told [] [] e = none
zones_told [] (z ∷ zs) e = absurd (false≢true e)
zones_told (r ∷ rs) [] e = absurd (false≢true e)
zones_told (r ∷ rs) (z ∷ zs) e = next (zone-told (and_left _ _ e)) (zones_told rs zs (and_right (shows_zone r z) _ e))

pub zones_show : {rs : List Zone} {zs : List DiskZone} → ShowsZones rs zs → shows_zones rs zs ≡ true
unfolding shows_zones
zones_show none = refl
zones_show (next w ws) = both (zone-shows w) (zones_show ws)

pub shows-told : (report : List ℕ) (disk : List DiskZone) → shows report disk ≡ true → Shows report disk
unfolding shows
shows-told report disk e = record { header = and_left _ _ e; zones = zones_told (zones_of report) disk (and_right (good_header report) _ e) }

pub report-shows : {report : List ℕ} {disk : List DiskZone} → Shows report disk → shows report disk ≡ true
unfolding shows
report-shows w = both w.header (zones_show w.zones)

pub record_told : (given : Bool) (bytes : List ℕ) (z : DiskZone) → shows_record given bytes z ≡ true → ShowsRecord given bytes z
unfolding shows_record
record_told given bytes z e = record { long = eqb-true _ _ (and_left _ _ e); shows = zone-told (and_right (eqb (length bytes) zone_bytes) _ e) }

pub record_shows : {given : Bool} {bytes : List ℕ} {z : DiskZone} → ShowsRecord given bytes z → shows_record given bytes z ≡ true
unfolding shows_record
record_shows w = both (eq-eqb _ _ w.long) (zone-shows w.shows)
