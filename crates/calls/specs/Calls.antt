-- A call on a mount: the checks in the paper's order, what the call answers, the mount that it leaves, and what it stores.
use Rattle.std.specs.Prelude.{ℕ, List, cond, length, Ok, Err, Some, None}
use Rattle.types.specs.declared.Mount.{Mount}
use Rattle.types.specs.declared.Row.{Row}
use Rattle.types.specs.declared.FileKind.{FileKind}
use Rattle.types.specs.declared.Refusal.TheVariants as refusal
use Rattle.types.specs.Answers.{Answer}
use Rattle.types.specs.declared.Granted.TheVariants.{Done, Issue}
use Rattle.types.specs.declared.Effect.{Effect}
use Rattle.types.specs.Answers.{Store}
use Rattle.types.specs.declared.Call.{Call}
use Rattle.types.specs.Codes.{is_kind, kind_from}
use Rattle.types.specs.Effects.{refusing}
use Rattle.types.specs.Predicates.{is_busy}
use Rattle.types.specs.Verdicts.{refuse, answer_after}
use Rattle.table.specs.Rows.{holding}
use Rattle.account.specs.Account.{accounted}
use Rattle.checks.specs.Checks.{Checked}
use Rattle.checks.specs.Checks.{no_kind, file_of}
use Rattle.decision.specs.Decision.{dispatched, counts, called, limits_of, limited}

-- ---- "Calls check in the order 10 (counts), 1, 10 (row), 2, then as below"

-- 2: "a command is outstanding", and 02: "Number 2 is now about the named file"; then as the row and the read-only mark say, and last as the
-- account does
abbrev pub on_row : Mount → FileKind → Row → Call → Answer
on_row m k r x =
    answer_after (refuse (is_busy r.outstanding) refusal.Busy (Ok tt))
    (limited (limits_of m.volume.explicit m.account k r x) (dispatched m.readonly m.volume.explicit m.volume.block k r x))

-- ---- what it does

-- 02: the account is "corrected in place" by an open and by a close of a seq file, and by no other call
abbrev pub mount_after : Mount → FileKind → Row → Call → Mount
mount_after m k r x = cond (counts k x) (accounted m k r (called k x r)) m

-- and of the calls that are answered at once, these alone store something
abbrev pub store_at_once : FileKind → ℕ → Row → Call → Store
store_at_once k i r x = cond (counts k x) (Some (k, i, called k x r)) None

-- an issued command is outstanding on its file; opens and closes aside, nothing else changes, and a call that is answered at once changes nothing;
-- nor does one that is refused
abbrev pub settled : Mount → FileKind → ℕ → Row → Call → Answer → Effect
settled m k i r x (Ok (Issue c)) =
    record { outcome = record { answer = Ok (Issue c); mount = mount_after m k r x }; store = Some (k, i, holding (called k x r) c) }
settled m k i r x (Ok (Done count)) =
    record { outcome = record { answer = Ok (Done count); mount = mount_after m k r x }; store = store_at_once k i r x }
settled m k i r x (Err y) = refusing m y

-- past 10 (counts), 1, 10 (row)
abbrev pub on_file : Mount → FileKind → ℕ → Checked → Call → Effect
on_file m k i (Ok r) x = settled m k i r x (on_row m k r x)
on_file m k i (Err y) x = refusing m y

-- THE CALLS: what a call on file i of a kind answers, the mount that it leaves, and what it stores
abbrev pub effect_of : Mount → List ℕ → List ℕ → FileKind → ℕ → Call → Effect
effect_of m cnv seq k i x = on_file m k i (file_of m cnv seq k i) x

-- of a kind that is given as a number: "kind byte 0 cnv or 1 seq", "a kind above 1 answers 1"
unfoldable pub effect_by : Mount → List ℕ → List ℕ → ℕ → ℕ → Call → Effect
effect_by m cnv seq n i x =
    cond (is_kind n) (effect_of m cnv seq (kind_from n) i x) (refusing m (no_kind m (length cnv) (length seq)))
