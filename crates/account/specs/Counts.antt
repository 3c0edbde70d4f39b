-- The true counts: how many rows of a table are open, and how many active.
use Rattle.std.specs.Prelude.{ℕ, zero, suc, ◌+◌, Bool, false, ◌≡◌, List, Ok, Err}
use Rattle.types.specs.declared.Mount.{Mount}
use Rattle.types.specs.declared.Row.{Row}
use Rattle.types.specs.Codes.{flag_code}
use Rattle.table.specs.Rows.{Slot}
use Rattle.table.specs.Rows.{row_at}
use Rattle.account.specs.Account.{is_open, is_active}

-- a slot that is a row, and passes
abbrev pub passes : (Row → Bool) → Slot → Bool
passes test (Ok r) = test r
passes test (Err o) = false

-- how many of the first rows of a table pass
unfoldable pub count_in : (Row → Bool) → List ℕ → ℕ → ℕ
count_in test table zero = 0
count_in test table (suc n) = count_in test table n + flag_code (passes test (row_at table n))

-- "both numbers are the true counts", of a mount and its sequential table
pub record TrueCounts (m : Mount) (seq : List ℕ) : Type 0 where
  pub opened : m.account.opened ≡ count_in is_open seq m.volume.sequential
  pub active : m.account.active ≡ count_in (is_active m.volume.explicit) seq m.volume.sequential
