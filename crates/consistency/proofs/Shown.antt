-- The row that a mount makes of a zone.
-- Assumes nothing.
use mathlib.Core.Bool.{Bool, true, false, cond}
use mathlib.Core.Path.{◌≡◌, refl, ap, ◌∙◌}
use Prim.Native.Nat.{ℕ, ◌-◌, ◌*◌}
use native.Mathlib.Omega.{arith}
use Rattle.types.specs.declared.Row.{Row}
use Rattle.types.specs.declared.Outstanding.TheVariants.{Idle}
use Rattle.types.specs.declared.FileKind.TheVariants.{Sequential}
use Rattle.types.specs.declared.Condition.{Condition}
use Rattle.types.specs.declared.Condition.TheVariants.{Healthy, ReadOnly, Offline}
use Rattle.types.specs.declared.Access.{Access}
use Rattle.types.specs.Predicates.{is_healthy}
use Rattle.types.proofs.Tests.{cases}
use Rattle.zones.specs.declared.Zone.{Zone}
use Rattle.zones.specs.Zone.{healthy, full, written_size}
use Rattle.files.specs.Files.{file_row, seq_row}
use Rattle.disk.specs.Disk.{DiskZone}
use Rattle.consistency.specs.FileHistory.{fresh_size}
use Rattle.disk.specs.Facts.{ShowsZone}
use Rattle.disk.proofs.SoundZone.{says_healthy, says_full, reported-shows}

-- the bytes up to the pointer
abbrev pub written_to : DiskZone → ℕ
written_to z = (z.pointer - z.start) * 512

-- a healthy file's row, or one kept as offline
abbrev pub row_by : Bool → ℕ → ℕ → ℕ → Row
row_by t s c n = record { start = s; capacity = c; size = cond t n 0; condition = cond t Healthy Offline; access = cond t Access.Write Access.Nothing; outstanding = Idle; opens = 0 }

abbrev pub shown_row : DiskZone → Row
shown_row z = row_by (is_healthy z.condition) z.start (z.capacity * 512) (written_to z)

pub file_row_lem : (t : Bool) (s c n : ℕ) → file_row t s c n ≡ row_by t s c n
file_row_lem true s c n = refl
file_row_lem false s c n = refl

row_same : (h : Condition) (s c n m : ℕ) → (h ≡ Healthy → n ≡ m) → row_by (is_healthy h) s c n ≡ row_by (is_healthy h) s c m
row_same Healthy s c n m e = ap (λ x. row_by true s c x) (e refl)
row_same ReadOnly s c n m e = refl
row_same Offline s c n m e = refl

-- what a record says is written of the healthy sequential zone that it shows lies below the zone's pointer
pub written_shown : {r : Zone} {z : DiskZone} → ShowsZone r z → z.kind ≡ Sequential → z.condition ≡ Healthy → written_size r ≡ written_to z
written_shown {r} {z} w k h =
    cases (full r)
    (λ f. rw f (omega (arith, w.capacity, says_full w k h f)))
    (λ f. rw f (omega (arith, w.start, w.pointer k h f)))

pub seq_row_lem : {r : Zone} {z : DiskZone} → ShowsZone r z → z.kind ≡ Sequential → seq_row r ≡ shown_row z
seq_row_lem {r} {z} w k =
    file_row_lem (healthy r) r.start (r.capacity * 512) (written_size r)
    ∙ ap (λ t. row_by t r.start (r.capacity * 512) (written_size r)) (says_healthy w)
    ∙ ap (λ s. row_by (is_healthy z.condition) s (r.capacity * 512) (written_size r)) w.start
    ∙ ap (λ c. row_by (is_healthy z.condition) z.start (c * 512) (written_size r)) w.capacity
    ∙ row_same z.condition z.start (z.capacity * 512) (written_size r) (written_to z) (written_shown w k)

-- a fresh mount would give the size that the disk's own record says
pub fresh_size_lem : (z : DiskZone) → z.kind ≡ Sequential → fresh_size z ≡ cond (is_healthy z.condition) (written_to z) 0
unfolding fresh_size
fresh_size_lem z k = ap (λ (r : Row). r.size) (seq_row_lem (reported-shows z) k)
