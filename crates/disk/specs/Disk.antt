-- The disk's rules: which commands a zone does, what they move, what can befall it, and how it is reported. Numbers of a zone are in
-- sectors of 512 bytes, those of a command and the block `b` in bytes.
use Rattle.std.specs.Prelude.{Bool, true, false, not, cond, ◌&&◌, List, [], ◌∷◌, map, ℕ, suc, ◌+◌, ◌-◌, ◌*◌, ◌/◌, min, max, eqb, ltb}
use Rattle.types.specs.declared.FileKind.{FileKind}
use Rattle.types.specs.declared.FileKind.TheVariants.{Conventional, Sequential}
use Rattle.types.specs.declared.Condition.{Condition}
use Rattle.types.specs.declared.Condition.TheVariants.{Healthy, ReadOnly, Offline}
use Rattle.types.specs.declared.Command.{Command}
use Rattle.types.specs.declared.Movement.{Movement}
use Rattle.types.specs.declared.Movement.TheVariants.{Stays, Advances, ToStart, ToEnd}
use Rattle.types.specs.Blocks.{sector_bytes, bytes_of, block_sectors}
use Rattle.types.specs.Commands.{movement_of, is_read, opens_or_closes}
use Rattle.types.specs.Predicates.{is_conventional, is_healthy, is_offline}
use Rattle.zones.specs.declared.Zone.{Zone}
use Rattle.zones.specs.Zone.{encode_zone}
use Rattle.report.specs.Report.{encode_report}

-- a zone as the disk has it; `Zone` is a record of one
pub record DiskZone : Type 0 where
  pub kind : FileKind
  pub start : ℕ
  pub length : ℕ
  pub capacity : ℕ
  pub pointer : ℕ
  pub condition : Condition

-- only in a healthy sequential zone does the pointer mean something
abbrev pub has_pointer : DiskZone → Bool
has_pointer z = is_healthy z.condition && not (is_conventional z.kind)

-- 02: "a full zone's pointer stands at start+capacity"
abbrev pub is_full : DiskZone → Bool
is_full z = eqb z.pointer (z.start + z.capacity)

-- the zone with another pointer and condition: nothing else ever moves
unfoldable pub moved : DiskZone → ℕ → Condition → DiskZone
moved z pointer condition =
    record { kind = z.kind; start = z.start; length = z.length; capacity = z.capacity; pointer = pointer; condition = condition }

-- what is given of a zone that the disk doesn't have
abbrev pub no_zone : DiskZone
no_zone = record { kind = Conventional; start = 0; length = 0; capacity = 0; pointer = 0; condition = Offline }

-- the number of "the zone at its address": the first that ends above it
unfoldable pub zone_holding : List DiskZone → ℕ → ℕ
zone_holding [] address = 0
zone_holding (z ∷ zs) address = cond (ltb address (bytes_of (z.start + z.length))) 0 (suc (zone_holding zs address))

-- ---- mishaps

-- "the condition worsens"
pub data Harm : Type 0 where
  none : Harm
  to_read_only : Harm
  to_offline : Harm

-- "nothing betters it"
abbrev pub worsened : Condition → Harm → Condition
worsened c none = c
worsened Healthy to_read_only = ReadOnly
worsened ReadOnly to_read_only = ReadOnly
worsened Offline to_read_only = Offline
worsened c to_offline = Offline

-- how many blocks the pointer falls back, and the harm
pub record Mishap : Type 0 where
  pub blocks : ℕ
  pub harm : Harm

-- "the pointer falls back by whole blocks, at most to start" (a pointer below the start, which only a zone has whose pointer means nothing, stays);
-- of a full zone "a mishap moves it from there", the end
abbrev pub fallen : ℕ → DiskZone → ℕ → ℕ → ℕ
fallen b z pointer blocks = max (min pointer z.start) (pointer - blocks * block_sectors b)

-- a mishap to the zone, with its pointer at `pointer`
unfoldable pub struck : ℕ → DiskZone → ℕ → Mishap → DiskZone
struck b z pointer e = moved z (fallen b z pointer e.blocks) (worsened z.condition e.harm)

-- ---- commands

-- "A healthy sequential zone takes a write only at its pointer .., a conventional one anywhere"
abbrev pub takes_at : FileKind → ℕ → ℕ → Bool
takes_at Conventional pointer address = true
takes_at Sequential pointer address = eqb address (bytes_of pointer)

-- "Flush .. fails if the file isn't quiet" (of a conventional file it may succeed in any case: the disk may do more there than the paper's)
abbrev pub flushes : FileKind → Bool → Bool
flushes Conventional quiet = true
flushes Sequential quiet = quiet

-- of all but an open and a close: "Write, reset and finish", which move the pointer, "fail on an unhealthy zone, a read on an offline one"; a
-- write is taken only at the pointer, and what neither moves nor reads is a flush
abbrev pub allows_by : Movement → Bool → Bool → DiskZone → ℕ → Bool
allows_by Stays read quiet z address = cond read (not (is_offline z.condition)) (flushes z.kind quiet)
allows_by Advances read quiet z address = is_healthy z.condition && takes_at z.kind z.pointer address
allows_by ToStart read quiet z address = is_healthy z.condition
allows_by ToEnd read quiet z address = is_healthy z.condition

-- the zone can do the command; 02: "open and close .. fail on an unhealthy zone"
unfoldable pub allows : Bool → DiskZone → Command → Bool
allows quiet z c =
    cond (opens_or_closes c.kind) (is_healthy z.condition) (allows_by (movement_of c.kind) (is_read c.kind) quiet z c.address)

-- ".. and moves it by the length"
abbrev pub advanced : FileKind → ℕ → ℕ → ℕ
advanced Conventional pointer n = pointer
advanced Sequential pointer n = pointer + n / sector_bytes

-- the pointer once a command of n bytes is done: "reset and finish move it to start and start+capacity"; 02: "open and close move no pointer"
abbrev pub pointer_after : DiskZone → Movement → ℕ → ℕ
pointer_after z Stays n = z.pointer
pointer_after z Advances n = advanced z.kind z.pointer n
pointer_after z ToStart n = z.start
pointer_after z ToEnd n = z.start + z.capacity

-- "a failing write may first land any whole number of its blocks", where the zone can take it; else nothing lands
abbrev pub landed_by : Movement → Bool → ℕ → DiskZone → ℕ → ℕ → ℕ
landed_by Stays can b z n blocks = z.pointer
landed_by Advances can b z n blocks = cond can (advanced z.kind z.pointer (min (blocks * b) n)) z.pointer
landed_by ToStart can b z n blocks = z.pointer
landed_by ToEnd can b z n blocks = z.pointer

-- what the disk chooses: "Any command may fail"; the blocks that land first; a "mishap (alone or with a failure)"
pub record Choice : Type 0 where
  pub fails : Bool
  pub lands : ℕ
  pub mishap : Mishap

-- whether the command was done, and the zone afterwards
pub record Performed : Type 0 where
  pub succeeded : Bool
  pub zone : DiskZone

abbrev pub performed_by : Bool → ℕ → Bool → DiskZone → Command → Choice → Performed
performed_by true b quiet z c o =
    record { succeeded = true; zone = moved z (pointer_after z (movement_of c.kind) c.length) z.condition }
performed_by false b quiet z c o =
    record { succeeded = false; zone = struck b z (landed_by (movement_of c.kind) (allows quiet z c) b z c.length o.lands) o.mishap }

-- the disk does a command
unfoldable pub perform : ℕ → Bool → DiskZone → Command → Choice → Performed
perform b quiet z c o = performed_by (allows quiet z c && not o.fails) b quiet z c o

-- ---- how the disk reports a zone: one way of many to show it (`Shows.antt`)

-- type 1 is conventional, 2 and 3 are sequential
abbrev pub type_byte : FileKind → ℕ
type_byte Conventional = 1
type_byte Sequential = 2

-- "A healthy sequential zone's condition follows: 1 at start, 14 at the end, else 2; a healthy conventional one's stays 0."
abbrev pub healthy_byte : FileKind → DiskZone → ℕ
healthy_byte Conventional z = 0
healthy_byte Sequential z = cond (eqb z.pointer z.start) 1 (cond (is_full z) 14 2)

-- "Condition 13 is read-only, 15 offline"
abbrev pub condition_byte : Condition → DiskZone → ℕ
condition_byte Healthy z = healthy_byte z.kind z
condition_byte ReadOnly z = 13
condition_byte Offline z = 15

-- the zone's record
unfoldable pub reported : DiskZone → Zone
reported z =
    record {
      start = z.start;
      length = z.length;
      pointer = z.pointer;
      kind = type_byte z.kind;
      condition = condition_byte z.condition z;
      capacity = z.capacity;
    }

-- its 64 bytes, and the report of all zones
abbrev pub disk_record : DiskZone → List ℕ
disk_record z = encode_zone (reported z)

abbrev pub disk_report : List DiskZone → List ℕ
disk_report zs = encode_report (map reported zs)
