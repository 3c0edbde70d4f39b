-- What demand 3 promises of a quiet sequential file's row when the file has no command outstanding: what a fresh mount would give, with three
-- exceptions.
use Rattle.std.specs.Prelude.{Bool, true, false, not, cond, ◌&&◌, ◌||◌, ◌≡◌, ℕ}
use Rattle.types.specs.declared.Row.{Row}
use Rattle.types.specs.declared.Condition.{Condition}
use Rattle.types.specs.declared.Access.{Access}
use Rattle.types.specs.declared.ErrorPolicy.{ErrorPolicy}
use Rattle.types.specs.declared.ErrorPolicy.TheVariants.{RemountRo, ZoneRo, ZoneOffline, Repair}
use Rattle.types.specs.Predicates.{is_healthy, is_read_only}
use Rattle.disk.specs.Disk.{DiskZone}
use Rattle.consistency.specs.FileHistory.{FileHistory}

abbrev pub is_zone_offline : ErrorPolicy → Bool
is_zone_offline RemountRo = false
is_zone_offline ZoneRo = false
is_zone_offline ZoneOffline = true
is_zone_offline Repair = false

abbrev pub is_zone_ro : ErrorPolicy → Bool
is_zone_ro RemountRo = false
is_zone_ro ZoneRo = true
is_zone_ro ZoneOffline = false
is_zone_ro Repair = false

-- the zone "is read-only, and wasn't at mount"
abbrev pub turned_read_only : FileHistory → DiskZone → Bool
turned_read_only h z = is_read_only z.condition && not h.read_only_at_mount

-- "Under zone-offline a recovered file .."
abbrev pub hidden : ErrorPolicy → FileHistory → Bool
hidden p h = is_zone_offline p && h.recovered

-- "Under the other options one whose zone is read-only, and wasn't at mount, .."
abbrev pub frozen : ErrorPolicy → FileHistory → DiskZone → Bool
frozen p h z = not (is_zone_offline p) && turned_read_only h z

-- "Under zone-ro a recovered one with a healthy zone .."
abbrev pub limited : ErrorPolicy → FileHistory → DiskZone → Bool
limited p h z = is_zone_ro p && (h.recovered && is_healthy z.condition)

-- ".. shows 0"; ".. keeps its last size"; ".. has that size", the fresh mount's, as all others do
unfoldable pub promised_size : ErrorPolicy → FileHistory → DiskZone → Row → ℕ
promised_size p h z fresh = cond (hidden p h) 0 (cond (frozen p h z) h.last_size fresh.size)

-- ".. can't be read"; ".. can be read"; ".. can only be read"; and else that of a fresh mount
unfoldable pub promised_access : ErrorPolicy → FileHistory → DiskZone → Row → Access
promised_access p h z fresh = cond (hidden p h) Access.Nothing (cond (frozen p h z || limited p h z) Access.Read fresh.access)

-- beside what is asked: a mount keeps a read-only zone "as offline", so the condition differs where the zone became read-only since
unfoldable pub promised_condition : FileHistory → DiskZone → Row → Condition
promised_condition h z fresh = cond (turned_read_only h z) Condition.ReadOnly fresh.condition

-- `row` is the row of a file whose zone is z and whose history is h, and `fresh` the row that a fresh mount gives it
pub record AsPromised (p : ErrorPolicy) (h : FileHistory) (z : DiskZone) (fresh row : Row) : Type 0 where
  pub start : row.start ≡ fresh.start
  pub capacity : row.capacity ≡ fresh.capacity
  pub size : row.size ≡ promised_size p h z fresh
  pub access : row.access ≡ promised_access p h z fresh
  pub condition : row.condition ≡ promised_condition h z fresh
