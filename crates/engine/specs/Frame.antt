-- The last sentence of demand 3, for any mount value and tables whatever: a call or a completion alters at most the row that it concerns;
-- beyond that only the read-only mark can move, and 02: "the account may move too"; and "All but 7 change nothing.", those answered 0 aside.
-- "A call concerns the row of the file it names, a completion that of the held command", whose file it names since 02.
use Rattle.std.specs.Prelude.{ℕ, ◌/◌, ◌≡◌, false, List, ◌≢◌, length, get_or, Ok}
use Rattle.types.specs.declared.Call.{Call}
use Rattle.types.specs.declared.FileKind.{FileKind}
use Rattle.types.specs.declared.Granted.TheVariants.{Done}
use Rattle.types.specs.Codes.{kind_code, kind_from}
use Rattle.types.specs.Kinds.{of_kind}
use Rattle.types.specs.Numbers.{answer_number}
use Rattle.table.specs.Rows.{row_width, row_at}
use Rattle.decision.specs.Decision.{counts}
use Rattle.engine.specs.Engine.{State, Input, call, completion, Step, step}

-- the file that an input names: its kind's number, and its number
abbrev pub kind_in : Input → ℕ
kind_in (call kind n x) = kind
kind_in (completion kind n x) = kind

abbrev pub number_in : Input → ℕ
number_in (call kind n x) = n
number_in (completion kind n x) = n

-- file n of kind k is another one
abbrev pub Other : Input → FileKind → ℕ → Type 0
Other x k n = kind_code k ≡ kind_in x → n ≡ number_in x → ⊥

-- the table of a kind
abbrev pub table_of : FileKind → State → List ℕ
table_of k s = of_kind k s.cnv s.seq

-- of the table of kind k: every word but those of the row that is named
pub record TableKeeps (s : State) (x : Input) (t : State) (k : FileKind) : Type 0 where
  pub length : length (table_of k t) ≡ length (table_of k s)
  pub words : (word : ℕ) → Other x k (word / row_width) → get_or (table_of k t) word 0 ≡ get_or (table_of k s) word 0

pub record Keeps (s : State) (x : Input) (t : Step) : Type 0 where
  pub volume : t.state.mount.volume ≡ s.mount.volume
  -- "two limits given at mount"
  pub open_limit : t.state.mount.account.open_limit ≡ s.mount.account.open_limit
  pub active_limit : t.state.mount.account.active_limit ≡ s.mount.account.active_limit
  -- the mark moves with a 7 alone, which only a completion answers
  pub mark : answer_number t.reply ≢ 7 → t.state.mount.readonly ≡ s.mount.readonly
  pub tables : (k : FileKind) → TableKeeps s x t.state k
  pub refused : answer_number t.reply ≢ 0 → answer_number t.reply ≢ 7 → t.state ≡ s

-- THE FRAME
unfoldable pub Frame : Type 0
Frame = (s : State) (x : Input) → Keeps s x (step s x)

-- ---- beside it

-- a call never moves the mark; opens and closes of seq files aside, none moves the account, and one that is answered at once changes nothing
pub record CallKeeps (s : State) (kind : ℕ) (x : Call) (t : Step) : Type 0 where
  pub mark : t.state.mount.readonly ≡ s.mount.readonly
  pub mount : counts (kind_from kind) x ≡ false → t.state.mount ≡ s.mount
  pub at_once : counts (kind_from kind) x ≡ false → (count : ℕ) → t.reply ≡ Ok (Done count) → t.state ≡ s

unfoldable pub CallsKeep : Type 0
CallsKeep = (s : State) (kind n : ℕ) (x : Call) → CallKeeps s kind x (step s (call kind n x))

-- another file's row stays as it was, and what is outstanding on it with it: that changes by its own calls and completions alone
unfoldable pub OthersStay : Type 0
OthersStay = (s : State) (x : Input) (k : FileKind) (n : ℕ) → Other x k n → row_at (table_of k (step s x).state) n ≡ row_at (table_of k s) n
