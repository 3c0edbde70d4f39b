-- What it tells that a record or a report shows the disk, clause by clause. No outcome is defined here.
use Rattle.std.specs.Prelude.{Bool, true, false, List, [], ◌∷◌, ◌≡◌, ℕ, length}
use Rattle.types.specs.declared.FileKind.TheVariants.{Sequential}
use Rattle.types.specs.declared.Condition.TheVariants.{Healthy}
use Rattle.zones.specs.declared.Zone.{Zone}
use Rattle.zones.specs.Zone.{zone_bytes, zone_at, full}
use Rattle.report.specs.Report.{good_header, zones_of}
use Rattle.disk.specs.Disk.{DiskZone}
use Rattle.disk.specs.Shows.{shows_kind, shows_condition}

-- the record r shows the zone z
pub record ShowsZone (r : Zone) (z : DiskZone) : Type 0 where
  pub kind : shows_kind z.kind r ≡ true
  pub start : r.start ≡ z.start
  pub length : r.length ≡ z.length
  pub capacity : r.capacity ≡ z.capacity
  pub pointer : z.kind ≡ Sequential → z.condition ≡ Healthy → full r ≡ false → r.pointer ≡ z.pointer
  pub condition : shows_condition z.condition z r.condition ≡ true

-- these bytes are a record, and it shows the zone z
pub record ShowsRecord (given : Bool) (bytes : List ℕ) (z : DiskZone) : Type 0 where
  pub long : length bytes ≡ zone_bytes
  pub shows : ShowsZone (zone_at given bytes 0) z

-- zone by zone
pub data ShowsZones : List Zone → List DiskZone → Type 0 where
  none : ShowsZones [] []
  next : {r : Zone} {z : DiskZone} {rs : List Zone} {zs : List DiskZone} → ShowsZone r z → ShowsZones rs zs → ShowsZones (r ∷ rs) (z ∷ zs)

-- a report's bytes show the disk
pub record Shows (report : List ℕ) (disk : List DiskZone) : Type 0 where
  pub header : good_header report ≡ true
  pub zones : ShowsZones (zones_of report) disk
