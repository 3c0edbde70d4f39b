-- "Completion and recovery": what a completion answers, the mount that it leaves, and the row that it stores.
use Rattle.std.specs.Prelude.{ℕ, List, Bool, cond, length, eqb, Ok, Err, Some, None}
use Rattle.types.specs.declared.Mount.{Mount}
use Rattle.types.specs.declared.Row.{Row}
use Rattle.types.specs.declared.Held.{Held}
use Rattle.types.specs.declared.FileKind.{FileKind}
use Rattle.types.specs.declared.Refusal.TheVariants as refusal
use Rattle.types.specs.declared.Granted.TheVariants.{Done}
use Rattle.types.specs.declared.ErrorPolicy.{ErrorPolicy}
use Rattle.types.specs.declared.ErrorPolicy.TheVariants.{RemountRo, ZoneRo, ZoneOffline, Repair}
use Rattle.types.specs.declared.Effect.{Effect}
use Rattle.types.specs.Codes.{is_kind, kind_from}
use Rattle.types.specs.Effects.{refusing}
use Rattle.types.specs.Mounts.{read_only}
use Rattle.table.specs.Rows.{cleared}
use Rattle.account.specs.Account.{accounted}
use Rattle.checks.specs.Checks.{no_kind}
use Rattle.zones.specs.declared.Zone.{Zone}
use Rattle.zones.specs.Zone.{zone_bytes, zone_at}
use Rattle.recovery.specs.Success.{row_after}
use Rattle.recovery.specs.Fits.{record_fits, misfit}
use Rattle.recovery.specs.Recovery.{nothing_lost, recovered_row, kept_open}
use Rattle.held.specs.Held.{Pending}
use Rattle.held.specs.Held.{pending_of}

-- ---- what the disk tells

-- done well, or failed: "Failure carries one zone record", decoded, or bytes that are no record
pub data Completion : Type 0 where
  good : Completion
  failed : Zone → Completion
  malformed : Completion

-- the failure that these bytes tell; `given` is the report's flag, "capacity given"
unfoldable pub completion_of : Bool → List ℕ → Completion
completion_of given bytes = cond (eqb (length bytes) zone_bytes) (failed (zone_at given bytes 0)) malformed

-- that the command was done well, or its failure
abbrev pub completion_by : Bool → Bool → List ℕ → Completion
completion_by done given bytes = cond done good (completion_of given bytes)

-- ---- "Success: a seq write adds its length to size, reset makes 0, finish capacity; answers the count (read, write) or 0."

-- the count is the command's length, "0 but for reads and writes"; 02: the account is "corrected in place"
unfoldable pub succeeded : Mount → Held → Row → Effect
succeeded m h r = record {
  outcome = record { answer = Ok (Done h.command.length); mount = accounted m h.kind r (row_after h.kind h.command r) };
  store = Some (h.kind, h.number, cleared (row_after h.kind h.command r));
}

-- ---- a failure whose record fits: "Otherwise answer 7, command cleared."

-- the mount after it, and the row that the file has then
abbrev pub failing : Mount → Held → Row → Effect
failing m h r = record {
  outcome = record { answer = Err (refusal.Failed r.size); mount = m };
  store = Some (h.kind, h.number, cleared r);
}

-- "Under remount-ro every recovery also marks the whole mount read-only."; 02: it "leaves other files' commands outstanding"
abbrev pub marked_by : ErrorPolicy → Mount → Mount
marked_by RemountRo m = read_only m
marked_by ZoneRo m = m
marked_by ZoneOffline m = m
marked_by Repair m = m

-- with the row before and the recovered row; 02: the account is "corrected in place"
abbrev pub recovering : Mount → Held → Row → Row → Effect
recovering m h before r = failing (accounted (marked_by m.volume.policy m) h.kind before r) h r

-- "A failed read with .. recovers nothing. Every other failure applies 000's table"
unfoldable pub recovered : Mount → Held → Row → Zone → Effect
recovered m h r z =
    cond (nothing_lost h.kind h.command.kind z r.size) (failing m h r)
    (recovering m h r (kept_open h.command.kind (recovered_row m.volume.policy h.kind z r)))

-- ---- 02: "Completions check 10 (counts), 1, 8, 10 (row), 9.", the last on failure

-- "Else 9, and the command stays outstanding."; 02: "Answers 29 and 9 carry it on", the reason. Bytes that are no record have none to name
abbrev pub effect_on : Mount → Held → Row → Completion → Effect
effect_on m h r good = succeeded m h r
effect_on m h r (failed z) =
    cond (record_fits m.volume.block h.kind r z) (recovered m h r z)
    (refusing m (refusal.BadRecord (misfit m.volume.block h.kind r z)))
effect_on m h r malformed = refusing m (refusal.BadRecord None)

abbrev pub effect_pending : Mount → Pending → Completion → Effect
effect_pending m (Ok (h, r)) x = effect_on m h r x
effect_pending m (Err y) x = refusing m y

-- THE COMPLETIONS: of the command that file i of a kind has outstanding, as the disk tells
abbrev pub effect_of : Mount → List ℕ → List ℕ → FileKind → ℕ → Completion → Effect
effect_of m cnv seq k i x = effect_pending m (pending_of m cnv seq k i) x

-- of a kind that is given as a number: "kind byte 0 cnv or 1 seq", "a kind above 1 answers 1"
unfoldable pub effect_by : Mount → List ℕ → List ℕ → ℕ → ℕ → Completion → Effect
effect_by m cnv seq n i x =
    cond (is_kind n) (effect_of m cnv seq (kind_from n) i x) (refusing m (no_kind m (length cnv) (length seq)))
