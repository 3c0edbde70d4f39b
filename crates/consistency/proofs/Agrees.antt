-- THE INVARIANT OF A SEQUENTIAL FILE, between its row, its zone and its history.
-- Assumes nothing.
use mathlib.Core.Bool.{Bool, true, false}
use mathlib.Core.Path.{◌≡◌, refl, ◌∙◌}
use Prim.Native.Nat.{ℕ, ◌*◌, ◌%◌, ◌≤◌, ◌<◌}
use Rattle.types.specs.declared.Row.{Row}
use Rattle.types.specs.declared.Outstanding.{Outstanding}
use Rattle.table.specs.Rows.{with_outstanding, with_opens}
use Rattle.types.specs.declared.FileKind.TheVariants.{Sequential}
use Rattle.types.specs.declared.Condition.{Condition}
use Rattle.types.specs.declared.Condition.TheVariants.{Healthy, ReadOnly, Offline}
use Rattle.types.specs.declared.Access.{Access}
use Rattle.types.specs.declared.ErrorPolicy.{ErrorPolicy}
use Rattle.types.specs.declared.ErrorPolicy.TheVariants.{RemountRo, ZoneRo, ZoneOffline, Repair}
use Rattle.types.specs.Predicates.{is_healthy, is_none}
use Rattle.recovery.specs.declared.grid.SizeRule.{SizeRule}
use Rattle.recovery.specs.declared.grid.Rule.{Rule}
use Rattle.recovery.specs.Grid.{recovery_grid, rule_of}
use Rattle.recovery.specs.Recovery.{ruled_access}
use Rattle.disk.specs.Disk.{DiskZone}
use Rattle.consistency.specs.FileHistory.{FileHistory}
use Rattle.disk.proofs.Conditions.{not_better}
use Rattle.disk.proofs.SoundZone.{SoundZone}
use Rattle.consistency.proofs.Shown.{written_to}

abbrev pub grid_rule : ErrorPolicy → Condition → Rule
grid_rule p h = rule_of recovery_grid p h

-- a size by a rule of the grid: f where it is fixed, n as it is
abbrev pub size_by : SizeRule → ℕ → ℕ → ℕ
size_by SizeRule.Fixed f n = f
size_by SizeRule.AsIs f n = n
size_by SizeRule.Zero f n = 0

-- what a row shows of a file: recovered or not, at the condition that the row knows, with a last size
abbrev pub size_of : ErrorPolicy → Bool → Condition → ℕ → ℕ
size_of p false h last = last
size_of p true h last = size_by (grid_rule p h).size last last

abbrev pub access_of : ErrorPolicy → Bool → Condition → Access
access_of p false h = Access.Write
access_of p true h = ruled_access (grid_rule p h).access Access.Write

-- a file whose zone was healthy at mount
pub record Live (b : ℕ) (p : ErrorPolicy) (z : DiskZone) (s : FileHistory) (r : Row) : Type 0 where
  pub size : r.size ≡ size_of p s.recovered r.condition s.last_size
  pub access : r.access ≡ access_of p s.recovered r.condition
  pub intact : s.recovered ≡ false → r.condition ≡ Healthy
  pub known : s.quiet ≡ true → z.condition ≡ r.condition
  pub worse : not_better r.condition z.condition ≡ true
  pub last : s.quiet ≡ true → z.condition ≡ Healthy → s.last_size ≡ written_to z
  pub whole : s.last_size % b ≡ 0
  pub fits : s.last_size ≤ z.capacity * 512
  pub mounted : s.read_only_at_mount ≡ false

-- one whose zone was not
pub record Dead (z : DiskZone) (s : FileHistory) (r : Row) : Type 0 where
  pub size : r.size ≡ 0
  pub access : r.access ≡ Access.Nothing
  pub condition : r.condition ≡ Offline
  pub untouched : s.recovered ≡ false
  pub unhealthy : is_healthy z.condition ≡ false
  pub mounted : s.read_only_at_mount ≡ false → z.condition ≡ Offline

pub data RowState (b : ℕ) (p : ErrorPolicy) (z : DiskZone) (s : FileHistory) (r : Row) : Type 0 where
  live : Live b p z s r → RowState b p z s r
  dead : Dead z s r → RowState b p z s r

pub record Agrees (b : ℕ) (p : ErrorPolicy) (z : DiskZone) (s : FileHistory) (r : Row) : Type 0 where
  pub kind : z.kind ≡ Sequential
  pub sound : SoundZone b z
  pub inner : 0 < z.start
  pub start : r.start ≡ z.start
  pub capacity : r.capacity ≡ z.capacity * 512
  pub state : RowState b p z s r

-- WHAT IS OUTSTANDING makes no difference, and neither do the opens.
pub agrees_beside : {b : ℕ} {p : ErrorPolicy} {z : DiskZone} {s : FileHistory} {r : Row} (n : ℕ) (o : Outstanding) → Agrees b p z s r → Agrees b p z s (with_outstanding (with_opens r n) o)
agrees_beside {b} {p} {z} {s} {r} n o a = record { kind = a.kind; sound = a.sound; inner = a.inner; start = a.start; capacity = a.capacity; state = by a.state }
  where
    by : RowState b p z s r → RowState b p z s (with_outstanding (with_opens r n) o)
    by (live l) =
        live (record {
          size = l.size;
          access = l.access;
          intact = l.intact;
          known = l.known;
          worse = l.worse;
          last = l.last;
          whole = l.whole;
          fits = l.fits;
          mounted = l.mounted;
        })
    by (dead d) =
        dead (record { size = d.size; access = d.access; condition = d.condition; untouched = d.untouched; unhealthy = d.unhealthy; mounted = d.mounted })

-- A ROW THAT CAN BE READ shows the last size.
pub size_last : (p : ErrorPolicy) (s : Bool) (h : Condition) (last : ℕ) → is_none (access_of p s h) ≡ false → size_of p s h last ≡ last
size_last p false h last e = refl
size_last RemountRo true Healthy last e = refl
size_last RemountRo true ReadOnly last e = refl
size_last RemountRo true Offline last e = cc
size_last ZoneRo true Healthy last e = refl
size_last ZoneRo true ReadOnly last e = refl
size_last ZoneRo true Offline last e = cc
size_last ZoneOffline true Healthy last e = cc
size_last ZoneOffline true ReadOnly last e = cc
size_last ZoneOffline true Offline last e = cc
size_last Repair true Healthy last e = refl
size_last Repair true ReadOnly last e = refl
size_last Repair true Offline last e = cc

pub row_last : {b : ℕ} {p : ErrorPolicy} {z : DiskZone} {s : FileHistory} {r : Row} → Live b p z s r → is_none r.access ≡ false → r.size ≡ s.last_size
row_last {p = p} {s = s} {r = r} l reads = l.size ∙ size_last p s.recovered r.condition s.last_size (rw l.access at reads)
