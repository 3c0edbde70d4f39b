-- What the checks tell of a completion's command once they are passed. No outcome is defined here.
use Rattle.std.specs.Prelude.{ℕ, ◌+◌, ◌/◌, ◌<◌, ◌≤◌, ◌^◌, ◌≡◌, true, List, Ok, Err}
use Rattle.types.specs.declared.Mount.{Mount}
use Rattle.types.specs.declared.Row.{Row}
use Rattle.types.specs.declared.Held.{Held}
use Rattle.types.specs.declared.FileKind.{FileKind}
use Rattle.types.specs.declared.Outstanding.TheVariants.{Busy}
use Rattle.types.specs.Blocks.{sector_bytes, good_block}
use Rattle.account.specs.Facts.{Room}
use Rattle.checks.specs.Facts.{Reached}
use Rattle.held.specs.Held.{Pending}
use Rattle.held.specs.Held.{issuable_on}

-- a completion is about this command and this row
pub record Ready (m : Mount) (cnv seq : List ℕ) (h : Held) (r : Row) : Type 0 where
  pub held : r.outstanding ≡ Busy h.command
  pub reached : Reached m cnv seq h.kind h.number r
  pub issued : issuable_on m h r ≡ true

-- it is that of the named file
abbrev pub PendingTells : Mount → List ℕ → List ℕ → FileKind → ℕ → Pending → Type 0
PendingTells m cnv seq k i (Ok (h, r)) = Ready m cnv seq h r × ((h.kind ≡ k) × (h.number ≡ i))
PendingTells m cnv seq k i (Err x) = Unit

-- then no sum on the row wraps
pub record Safe (m : Mount) (h : Held) (r : Row) : Type 0 where
  pub block : good_block m.volume.block ≡ true
  pub room : Room m.account
  pub ends : r.start + r.capacity / sector_bytes ≤ 2 ^ 40
  pub grows : r.size + h.command.length < 2 ^ 64

abbrev pub PendingSafe : Mount → Pending → Type 0
PendingSafe m (Ok (h, r)) = Safe m h r
PendingSafe m (Err x) = Unit
