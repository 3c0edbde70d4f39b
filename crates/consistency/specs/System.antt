-- The engine's state, the disk, and the history of each zone; what can happen; and what comes of it. Each call and completion is a step of
-- the engine.
use Rattle.std.specs.Prelude.{Bool, true, false, not, cond, ◌&&◌, ◌||◌, List, [], ◌∷◌, map, ℕ, zero, suc, ltb, get_or, set}
use Rattle.types.specs.declared.Command.{Command}
use Rattle.types.specs.declared.Call.{Call}
use Rattle.types.specs.declared.Outstanding.{Outstanding}
use Rattle.types.specs.declared.Outstanding.TheVariants.{Idle, Busy, Unknown}
use Rattle.types.specs.declared.FileKind.{FileKind}
use Rattle.types.specs.Codes.{is_kind, kind_from}
use Rattle.types.specs.Kinds.{files_of}
use Rattle.types.specs.Predicates.{is_conventional}
use Rattle.table.specs.Rows.{row_at, outstanding_in}
use Rattle.completion.specs.Completions.{Completion, completion_by}
use Rattle.mount.specs.Mount.{Mounting}
use Rattle.engine.specs.Engine.{State, Input, Step}
use Rattle.engine.specs.Engine as engine
use Rattle.engine.specs.Frame.{table_of}
use Rattle.disk.specs.Disk.{DiskZone, no_zone, zone_holding, Mishap, Choice, Performed, struck, perform}
use Rattle.disk.specs.Shows.{shows_record}
use Rattle.consistency.specs.FileHistory.{FileHistory, at_mount, after_mishap, after_command}

pub record System : Type 0 where
  pub state : State
  pub disk : List DiskZone
  pub histories : List FileHistory

abbrev pub no_history : FileHistory
no_history = record { quiet = false; last_size = 0; recovered = false; read_only_at_mount = false }

-- "Zone 0 never. Each sequential zone is one `seq` file." Zone 0 is the one that starts at sector 0.
abbrev pub holds_seq_file : DiskZone → Bool
holds_seq_file z = not (is_conventional z.kind) && ltb 0 z.start

-- the number of the zone of the n-th seq file: "Numbers count from 0 by start."
unfoldable pub file_zone : List DiskZone → ℕ → ℕ
file_zone [] n = 0
file_zone (z ∷ zs) zero = cond (holds_seq_file z) 0 (suc (file_zone zs zero))
file_zone (z ∷ zs) (suc n) = suc (file_zone zs (cond (holds_seq_file z) n (suc n)))

abbrev pub zone_of : System → ℕ → DiskZone
zone_of s n = get_or s.disk (file_zone s.disk n) no_zone

abbrev pub history_of : System → ℕ → FileHistory
history_of s n = get_or s.histories (file_zone s.disk n) no_history

-- ---- 02: "each file may have one outstanding"

-- what is outstanding on file n of a kind: nothing where there is no such file
abbrev pub outstanding_on : State → FileKind → ℕ → Outstanding
outstanding_on s k n = cond (ltb n (files_of k s.mount.volume)) (outstanding_in (row_at (table_of k s) n)) Idle

-- of a kind that is given as a number
abbrev pub outstanding_by : State → ℕ → ℕ → Outstanding
outstanding_by s kind n = cond (is_kind kind) (outstanding_on s (kind_from kind) n) Idle

-- ---- what can happen

-- "a read, write, truncate or flush with any arguments", 02: "with opens and closes among its calls"; "a mishap; the disk doing an outstanding
-- command, with its completion; a completion with nothing outstanding". All but a mishap name a file, by a kind's number and a number: the one
-- that is called, whose command is done, or that has nothing outstanding. A doing has the bytes that a failure carries, and the flag "capacity given".
pub data Event : Type 0 where
  call : (kind number : ℕ) → Call → Event
  mishap : (zone : ℕ) → Mishap → Event
  doing : (kind number : ℕ) → Choice → (given : Bool) (bytes : List ℕ) → Event
  stray : (kind number : ℕ) → Completion → Event

-- the engine steps, and the disk is left alone
abbrev pub stepped : System → Input → System
stepped s x = record { state = (engine.step s.state x).state; disk = s.disk; histories = s.histories }

-- the number of a command's zone
abbrev pub place_of : System → Command → ℕ
place_of s c = zone_holding s.disk c.address

-- what the disk does with a command
abbrev pub perform_in : System → Command → Choice → Performed
perform_in s c o =
    let i = place_of s c in
    perform s.state.mount.volume.block (get_or s.histories i no_history).quiet (get_or s.disk i no_zone) c o

-- what its completion does, with these bytes if it failed
abbrev pub digested : System → (kind number : ℕ) → Command → Choice → Bool → List ℕ → Step
digested s kind n c o given bytes = engine.step s.state (Input.completion kind n (completion_by (perform_in s c o).succeeded given bytes))

-- and what comes of both
abbrev pub settled_in : System → Command → Performed → State → System
settled_in s c d state =
    let i = place_of s c in
    record {
      state = state;
      disk = set s.disk i d.zone;
      histories = set s.histories i (after_command d.succeeded (get_or s.histories i no_history) c d.zone);
    }

-- "Doing a command, answering and digesting the completion count as one moment". While its file has nothing outstanding there is nothing to do,
-- nor for a code that is no command's.
abbrev pub done_by : Outstanding → System → (kind number : ℕ) → Choice → Bool → List ℕ → System
done_by Idle s kind n o given bytes = s
done_by (Busy c) s kind n o given bytes = settled_in s c (perform_in s c o) (digested s kind n c o given bytes).state
done_by Unknown s kind n o given bytes = s

-- a completion with nothing outstanding; while a command is outstanding on that file, the disk answers that one
abbrev pub stray_by : Outstanding → System → (kind number : ℕ) → Completion → System
stray_by Idle s kind n x = stepped s (Input.completion kind n x)
stray_by (Busy c) s kind n x = s
stray_by Unknown s kind n x = s

-- a mishap in zone i
abbrev pub harmed : System → ℕ → DiskZone → System
harmed s i new =
    record {
      state = s.state;
      disk = set s.disk i new;
      histories = set s.histories i (after_mishap (get_or s.histories i no_history) (get_or s.disk i no_zone) new);
    }

unfoldable pub step : System → Event → System
step s (call kind n x) = stepped s (Input.call kind n x)
step s (mishap i e) =
    let z = get_or s.disk i no_zone in
    harmed s i (struck s.state.mount.volume.block z z.pointer e)
step s (doing kind n o given bytes) = done_by (outstanding_by s.state kind n) s kind n o given bytes
step s (stray kind n x) = stray_by (outstanding_by s.state kind n) s kind n x

-- "Each call and completion gets the mount value and tables that the last one left."
unfoldable pub run : System → List Event → System
run s [] = s
run s (e ∷ es) = run (step s e) es

-- ---- "A failed command reports the zone at its address truthfully afterwards."

abbrev pub truthful_by : Outstanding → System → Choice → Bool → List ℕ → Bool
truthful_by Idle s o given bytes = true
truthful_by (Busy c) s o given bytes = let d = perform_in s c o in d.succeeded || shows_record given bytes d.zone
truthful_by Unknown s o given bytes = true

abbrev pub truthful : System → Event → Bool
truthful s (call kind n x) = true
truthful s (mishap i e) = true
truthful s (doing kind n o given bytes) = truthful_by (outstanding_by s.state kind n) s o given bytes
truthful s (stray kind n x) = true

-- all along a list
unfoldable pub all_truthful : System → List Event → Bool
all_truthful s [] = true
all_truthful s (e ∷ es) = truthful s e && all_truthful (step s e) es

-- ---- what a mount leaves, on this disk

unfoldable pub mounted : Mounting → List DiskZone → System
mounted o disk = record { state = engine.mounted o; disk = disk; histories = map at_mount disk }
