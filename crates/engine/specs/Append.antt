-- The promise of an append: a write to a sequential file that is permitted is never refused, and never answered without its one command;
-- and no other write to a sequential file is commanded. For any mount value and tables whatever.
use Rattle.std.specs.Prelude.{ℕ, ◌+◌, ◌%◌, ◌≤◌, ◌<◌, true, false, ◌≡◌, Ok}
use Rattle.types.specs.declared.Row.{Row}
use Rattle.types.specs.declared.Call.{Call}
use Rattle.types.specs.declared.Command.{Command}
use Rattle.types.specs.declared.CommandKind.TheVariants.{Write}
use Rattle.types.specs.declared.FileKind.TheVariants.{Sequential}
use Rattle.types.specs.declared.Access.TheVariants as access
use Rattle.types.specs.declared.Granted.TheVariants.{Issue}
use Rattle.types.specs.declared.Outstanding.TheVariants.{Idle}
use Rattle.types.specs.Blocks.{bytes_of}
use Rattle.types.specs.Codes.{kind_code}
use Rattle.table.specs.Rows.{set_row, holding}
use Rattle.account.specs.Account.{is_open}
use Rattle.checks.specs.Facts.{Reached}
use Rattle.engine.specs.Engine.{State, Input, Step, step}

-- a write of `length` bytes at `offset` to seq file n, whose row is r: neither 10 nor 1; not 2; "Write: 3, 4, 5, then for seq 6. Length 0:
-- answered 0. Else a write command."; 02: with the option not 13
pub record Permitted (s : State) (n : ℕ) (r : Row) (offset length : ℕ) : Type 0 where
  pub reached : Reached s.mount s.cnv s.seq Sequential n r
  pub idle : r.outstanding ≡ Idle
  pub writable : s.mount.readonly ≡ false
  pub access : r.access ≡ access.Write
  pub opened : s.mount.volume.explicit ≡ true → is_open r ≡ true
  pub fits : offset + length ≤ r.capacity
  pub appends : offset ≡ r.size
  pub whole : length % s.mount.volume.block ≡ 0
  pub some : 0 < length

-- "a byte address (start × 512, plus the offset for reads and writes) and a byte length"
abbrev pub append_command : Row → ℕ → ℕ → Command
append_command r offset length = record { kind = Write; address = bytes_of r.start + offset; length = length }

abbrev pub write : State → ℕ → ℕ → ℕ → Step
write s n offset length = step s (Input.call (kind_code Sequential) n (Call.Write offset length))

-- the command, and the state with it outstanding on its file and nothing else changed
abbrev pub commanded : State → ℕ → Row → Command → Step
commanded s n r c =
    record { reply = Ok (Issue c); state = record { mount = s.mount; cnv = s.cnv; seq = set_row s.seq n (holding r c) } }

unfoldable pub AppendCommanded : Type 0
AppendCommanded =
    (s : State) (n : ℕ) (r : Row) (offset length : ℕ) → Permitted s n r offset length → write s n offset length ≡ commanded s n r (append_command r offset length)

unfoldable pub OnlyAppends : Type 0
OnlyAppends =
    (s : State) (n offset length : ℕ) (c : Command) → (write s n offset length).reply ≡ Ok (Issue c)
    → (r : Row) × (Permitted s n r offset length × (append_command r offset length ≡ c))
