-- What is outstanding on a file, and what that tells of the file and its row.
-- Assumes nothing.
use Rattle.std.specs.Prelude.{Ok}
use Prim.Native.Nat.{ℕ, ◌<◌}
use native.Mathlib.Omega.{arith}
use mathlib.Core.Path.{◌≡◌, refl, ap, ◌∙◌}
use mathlib.Core.Bool.{Bool, true, false, cond}
use lib.Dec.{ltb}
use borrow.Author.Tests.{lt-ltb, ltb-true}
use Rattle.types.specs.declared.Row.{Row}
use Rattle.types.specs.declared.Command.{Command}
use Rattle.types.specs.declared.FileKind.{FileKind}
use Rattle.types.specs.declared.Outstanding.{Outstanding}
use Rattle.types.specs.declared.Outstanding.TheVariants.{Idle, Busy}
use Rattle.types.specs.Codes.{is_kind, kind_from}
use Rattle.types.specs.Kinds.{files_of}
use Rattle.table.specs.Rows.{row_at, outstanding_in}
use Rattle.completion.specs.Completions.{Completion}
use Rattle.completion.specs.Completions as completions
use Rattle.engine.specs.Engine.{State}
use Rattle.engine.specs.Frame.{table_of}
use Rattle.consistency.specs.System.{outstanding_on, outstanding_by}

-- of a file that there is, it is as its row says
pub known_on : (s : State) (k : FileKind) (n : ℕ) → n < files_of k s.mount.volume → outstanding_on s k n ≡ outstanding_in (row_at (table_of k s) n)
known_on s k n h = rw (lt-ltb n (files_of k s.mount.volume) h)

pub row_on : (s : State) (k : FileKind) (n : ℕ) (r : Row) → n < files_of k s.mount.volume → row_at (table_of k s) n ≡ Ok r → outstanding_on s k n ≡ r.outstanding
row_on s k n r h e = known_on s k n h ∙ ap outstanding_in e

-- a file that has a command outstanding is one
only_if : (t : Bool) (o : Outstanding) (c : Command) → cond t o Idle ≡ Busy c → (t ≡ true) × (o ≡ Busy c)
only_if true o c e = (refl, e)
only_if false o c e = let x : ◌≡◌ {A = ℕ} 0 1 = cc in absurd (omega arith)

pub busy_known : (s : State) (k : FileKind) (n : ℕ) (c : Command) → outstanding_on s k n ≡ Busy c → n < files_of k s.mount.volume
busy_known s k n c e = ltb-true n (files_of k s.mount.volume) (only_if (ltb n (files_of k s.mount.volume)) _ c e).0

-- and its kind is one
pub busy_kind : (s : State) (kind n : ℕ) (c : Command) → outstanding_by s kind n ≡ Busy c → (is_kind kind ≡ true) × (outstanding_on s (kind_from kind) n ≡ Busy c)
busy_kind s kind n c e = only_if (is_kind kind) (outstanding_on s (kind_from kind) n) c e

pub kind_on : (s : State) (kind n : ℕ) → is_kind kind ≡ true → outstanding_by s kind n ≡ outstanding_on s (kind_from kind) n
kind_on s kind n e = rw e

-- a completion of a file of such a kind
pub completion_on : (s : State) (kind n : ℕ) (x : Completion) → is_kind kind ≡ true
    → completions.effect_by s.mount s.cnv s.seq kind n x ≡ completions.effect_of s.mount s.cnv s.seq (kind_from kind) n x
unfolding completions.effect_by
completion_on s kind n x e = rw e
