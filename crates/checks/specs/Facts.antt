-- What the shared checks tell once they are passed. No outcome is defined here: contracts and the crates above hand these facts on.
use Rattle.std.specs.Prelude.{ℕ, ◌+◌, ◌/◌, ◌%◌, ◌^◌, ◌≤◌, ◌<◌, ◌≡◌, true, cond, List, length, Ok, Err}
use Rattle.types.specs.declared.Mount.{Mount}
use Rattle.types.specs.declared.Row.{Row}
use Rattle.types.specs.declared.FileKind.{FileKind}
use Rattle.types.specs.declared.FileKind.TheVariants.{Conventional}
use Rattle.types.specs.declared.Condition.TheVariants as condition
use Rattle.types.specs.declared.Access.TheVariants as access
use Rattle.types.specs.Blocks.{sector_bytes, block_sectors}
use Rattle.types.specs.Kinds.{of_kind, files_of}
use Rattle.account.specs.Account.{counted}
use Rattle.types.specs.declared.Refusal.TheVariants as refusal
use Rattle.table.specs.Rows.{Slot}
use Rattle.table.specs.Rows.{row_at}
use Rattle.checks.specs.Checks.{Checked}
use Rattle.checks.specs.Checks.{counts_fit, openable, sound_row}

-- 10 (row), clause by clause
pub record SoundRow (block : ℕ) (k : FileKind) (r : Row) : Type 0 where
  pub started : 0 < r.start
  pub aligned : r.start % block_sectors block ≡ 0
  pub roomy : 0 < r.capacity
  pub whole : r.capacity % block ≡ 0
  pub ends : r.start + r.capacity / sector_bytes ≤ 2 ^ 40
  pub blocks : r.size % block ≡ 0
  pub within : r.size ≤ r.capacity
  pub offline : r.condition ≡ condition.Offline → r.access ≡ access.Nothing
  pub none : r.access ≡ access.Nothing → r.size ≡ 0
  pub readonly : r.condition ≡ condition.ReadOnly → r.access ≡ access.Write → ⊥
  pub full : k ≡ Conventional → (r.access ≡ access.Nothing → ⊥) → r.size ≡ r.capacity
  pub openable : 0 < r.opens → r.access ≡ access.Write

-- 10 (counts), 1 and 10 (row) are passed
pub record Reached (m : Mount) (cnv seq : List ℕ) (k : FileKind) (i : ℕ) (r : Row) : Type 0 where
  pub counts : counts_fit m (length cnv) (length seq) ≡ true
  pub number : i < files_of k m.volume
  pub row : row_at (of_kind k cnv seq) i ≡ Ok r
  pub sound : sound_row m.volume.block k r ≡ true
  pub counted : counted m k r ≡ true

-- 10 (row) in two steps, as the code takes them: the row's own rules, and then the account. The law `slot_counted` says that together they are
-- `sound_slot`
abbrev pub ruled_slot : ℕ → FileKind → Slot → Checked
ruled_slot block k (Ok r) = cond (sound_row block k r) (Ok r) (Err refusal.Impossible)
ruled_slot block k (Err o) = Err refusal.Impossible

abbrev pub counted_file : Mount → FileKind → Checked → Checked
counted_file m k (Ok r) = cond (counted m k r) (Ok r) (Err refusal.Impossible)
counted_file m k (Err x) = Err x

-- what a checked row tells: sums on it never wrap
abbrev pub Ends : Checked → Type 0
Ends (Ok r) = r.start + r.capacity / sector_bytes ≤ 2 ^ 40
Ends (Err x) = Unit

-- and it has opens only with write access
abbrev pub Openable : Checked → Type 0
Openable (Ok r) = openable r ≡ true
Openable (Err x) = Unit
