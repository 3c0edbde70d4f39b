-- When a zone's record, or a report, shows the disk as it is: "A failed command reports the zone at its address truthfully afterwards", "a
-- report that shows each zone's pointer and condition now". A record says its zone's kind, start, length, capacity and condition, and the
-- pointer where that means something and the record doesn't say that the zone is full; any other pointer may be anything, and so may the
-- bytes that are ignored.
use Rattle.std.specs.Prelude.{Bool, true, false, not, ◌&&◌, ◌||◌, List, [], ◌∷◌, ℕ, leb, eqb, length}
use Rattle.types.specs.declared.FileKind.{FileKind}
use Rattle.types.specs.declared.FileKind.TheVariants.{Conventional, Sequential}
use Rattle.types.specs.declared.Condition.{Condition}
use Rattle.types.specs.declared.Condition.TheVariants.{Healthy, ReadOnly, Offline}
use Rattle.types.specs.Predicates.{means}
use Rattle.zones.specs.declared.Zone.{Zone}
use Rattle.zones.specs.Zone.{zone_bytes, zone_at, conventional, sequential, full}
use Rattle.report.specs.Report.{good_header, zones_of}
use Rattle.disk.specs.Disk.{DiskZone, has_pointer, is_full}

-- "Type 1 (conventional)", "Types 2 and 3 (sequential)"
abbrev pub shows_kind : FileKind → Zone → Bool
shows_kind Conventional r = conventional r
shows_kind Sequential r = sequential r

-- the byte of a healthy zone: of a conventional one 0; of a sequential one 1 to 4, or 14 where its pointer stands at the end, which takes in
-- the one that the disk's rules name and 02's, an open or a close "may leave condition 3 or 4"
abbrev pub shows_healthy : FileKind → DiskZone → ℕ → Bool
shows_healthy Conventional z byte = eqb byte 0
shows_healthy Sequential z byte = leb 1 byte && leb byte 4 || eqb byte 14 && is_full z

-- "Condition 13 is read-only, 15 offline, others healthy."
abbrev pub shows_condition : Condition → DiskZone → ℕ → Bool
shows_condition Healthy z byte = shows_healthy z.kind z byte
shows_condition ReadOnly z byte = eqb byte 13
shows_condition Offline z byte = eqb byte 15

abbrev pub shows_place : Zone → DiskZone → Bool
shows_place r z = eqb r.start z.start && eqb r.length z.length && eqb r.capacity z.capacity

-- 02: "but the zone may report any pointer while full": while its record says so
abbrev pub shows_pointer : Zone → DiskZone → Bool
shows_pointer r z = means (has_pointer z && not (full r)) (eqb r.pointer z.pointer)

-- the record r shows the zone z
unfoldable pub shows_zone : Zone → DiskZone → Bool
shows_zone r z =
    shows_kind z.kind r && shows_place r z && shows_pointer r z && shows_condition z.condition z r.condition

-- these bytes are a record that shows the zone; `given` is the flag "capacity given"
unfoldable pub shows_record : Bool → List ℕ → DiskZone → Bool
shows_record given bytes z = eqb (length bytes) zone_bytes && shows_zone (zone_at given bytes 0) z

-- zone by zone
unfoldable pub shows_zones : List Zone → List DiskZone → Bool
shows_zones [] [] = true
shows_zones [] (z ∷ zs) = false
shows_zones (r ∷ rs) [] = false
shows_zones (r ∷ rs) (z ∷ zs) = shows_zone r z && shows_zones rs zs

-- a report's bytes show the disk
unfoldable pub shows : List ℕ → List DiskZone → Bool
shows report disk = good_header report && shows_zones (zones_of report) disk
