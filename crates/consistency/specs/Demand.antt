-- DEMAND 3, from bytes to bytes, and what stands beside it.
use Rattle.std.specs.Prelude.{Bool, true, cond, List, ◌≢◌, ◌≡◌, ℕ, ◌<◌, length, get_or, Ok}
use Rattle.types.specs.declared.Row.{Row}
use Rattle.types.specs.declared.Command.{Command}
use Rattle.types.specs.declared.Call.{Call}
use Rattle.types.specs.declared.Outstanding.TheVariants.{Idle, Busy}
use Rattle.types.specs.declared.FileKind.TheVariants.{Sequential}
use Rattle.types.specs.declared.ErrorPolicy.{ErrorPolicy}
use Rattle.types.specs.Codes.{is_kind, kind_from}
use Rattle.types.specs.Numbers.{mount_number, answer_number}
use Rattle.table.specs.Rows.{row_at}
use Rattle.options.specs.Options.{options_of}
use Rattle.mount.specs.Mount.{Mounting, mount_outcome, policy_of}
use Rattle.engine.specs.Engine.{Input}
use Rattle.engine.specs.Engine as engine
use Rattle.consistency.specs.Possible.{IsFile, impossible, no_file}
use Rattle.disk.specs.Disk.{DiskZone, no_zone, Choice, disk_record, disk_report}
use Rattle.disk.specs.Shows.{shows_record, shows}
use Rattle.consistency.specs.FileHistory.{FileHistory}
use Rattle.consistency.specs.System.{System, outstanding_on, outstanding_by, Event, doing, run, truthful, all_truthful, mounted, zone_of, history_of, perform_in, digested}
use Rattle.consistency.specs.Claim.{AsPromised}

-- ---- a list for demand 3

-- "A list for demand 3 starts from a mount answered 0, with the disk as its report says."
pub record Start (block : ℕ) (superblock options report : List ℕ) (open_limit active_limit : ℕ) (cnv seq : List ℕ) (disk : List DiskZone) : Type 0 where
  pub answer : mount_number (mount_outcome block superblock options report open_limit active_limit cnv seq).answer ≡ 0
  pub shown : shows report disk ≡ true

-- the mount's arguments, the disk, and the entries
pub record History : Type 0 where
  pub block : ℕ
  pub superblock : List ℕ
  pub options : List ℕ
  pub report : List ℕ
  pub open_limit : ℕ
  pub active_limit : ℕ
  pub cnv : List ℕ
  pub seq : List ℕ
  pub disk : List DiskZone
  pub events : List Event
  pub start : Start block superblock options report open_limit active_limit cnv seq disk
  pub honest : all_truthful (mounted (mount_outcome block superblock options report open_limit active_limit cnv seq) disk) events ≡ true

-- the system after it
abbrev pub after : History → System
after h =
    run (mounted (mount_outcome h.block h.superblock h.options h.report h.open_limit h.active_limit h.cnv h.seq) h.disk) h.events

-- ---- the claim

-- "Fresh mount: the same arguments with other tables as long, and a report that shows each zone's pointer and condition now."
pub record Fresh (h : History) : Type 0 where
  pub report : List ℕ
  pub cnv : List ℕ
  pub seq : List ℕ
  pub shown : shows report (after h).disk ≡ true
  pub cnv_long : length cnv ≡ length h.cnv
  pub seq_long : length seq ≡ length h.seq

abbrev pub fresh_mount : (h : History) → Fresh h → Mounting
fresh_mount h f = mount_outcome h.block h.superblock h.options f.report h.open_limit h.active_limit f.cnv f.seq

-- row n of the words `now` compares with row n of the words `fresh` as promised
pub record Compares (p : ErrorPolicy) (h : FileHistory) (z : DiskZone) (fresh now : List ℕ) (n : ℕ) : Type 0 where
  pub row : Row
  pub other : Row
  pub here : row_at now n ≡ Ok row
  pub there : row_at fresh n ≡ Ok other
  pub promised : AsPromised p h z other row

-- what a system s and a fresh mount o under an option have in common
pub record Consistent (p : ErrorPolicy) (s : System) (o : Mounting) : Type 0 where
  pub answer : mount_number o.answer ≡ 0
  pub files : o.mount.volume.sequential ≡ s.state.mount.volume.sequential
  pub rows : (n : ℕ) → n < s.state.mount.volume.sequential → outstanding_on s.state Sequential n ≡ Idle → (history_of s n).quiet ≡ true
      → Compares p (history_of s n) (zone_of s n) o.seq s.state.seq n

-- DEMAND 3: "a single claim about the whole list". Every fresh mount is answered 0, and, 02, "whenever this file has nothing outstanding", every
-- quiet seq file's row compares with its row there as promised, whatever the other files have outstanding.
unfoldable pub Demand3 : Type 0
Demand3 = (h : History) (f : Fresh h) → Consistent (policy_of (options_of h.options)) (after h) (fresh_mount h f)

-- ---- beside it: nothing in it is empty

-- every mount answered 0 has a disk that its report shows
unfoldable pub AlwaysStarted : Type 0
AlwaysStarted =
    (block : ℕ) (superblock options report : List ℕ) (open_limit active_limit : ℕ) (cnv seq : List ℕ) → mount_number (mount_outcome block superblock options report open_limit active_limit cnv seq).answer ≡ 0
    → (disk : List DiskZone) × Start block superblock options report open_limit active_limit cnv seq disk

-- the disk's own report is one of bytes, and shows the disk as it is: a fresh mount can always be made
pub record Reported (disk : List DiskZone) : Type 0 where
  pub bytes : (i : ℕ) → get_or (disk_report disk) i 0 < 256
  pub shown : shows (disk_report disk) disk ≡ true

unfoldable pub AlwaysReported : Type 0
AlwaysReported = (h : History) → Reported (after h).disk

-- and so is a zone's own record, with the flag "capacity given": every zone can be reported truthfully
pub record Recorded (z : DiskZone) : Type 0 where
  pub bytes : (i : ℕ) → get_or (disk_record z) i 0 < 256
  pub shown : shows_record true (disk_record z) z ≡ true

-- of every zone, and whatever the disk does with an outstanding command
pub record Recordable (s : System) : Type 0 where
  pub zones : (i : ℕ) → i < length s.disk → Recorded (get_or s.disk i no_zone)
  pub doings : (kind n : ℕ) (c : Command) → outstanding_by s.state kind n ≡ Busy c → (o : Choice) → Recorded (perform_in s c o).zone

unfoldable pub AlwaysRecorded : Type 0
AlwaysRecorded = (h : History) → Recordable (after h)

-- ---- beside it: what is answered on the way

-- the completion is answered 0 if the command was done and 7 if it failed, never 1, 8, 9 or 10, and its file then has nothing outstanding
pub record Digested (s : System) (kind n : ℕ) (c : Command) (o : Choice) (given : Bool) (bytes : List ℕ) : Type 0 where
  pub number : answer_number (digested s kind n c o given bytes).reply ≡ cond (perform_in s c o).succeeded 0 7
  pub idle : outstanding_by (digested s kind n c o given bytes).state kind n ≡ Idle

-- whatever the disk does with an outstanding command, and truthfully reports of it
unfoldable pub AlwaysDigested : Type 0
AlwaysDigested =
    (h : History) (kind n : ℕ) (c : Command) → outstanding_by (after h).state kind n ≡ Busy c
    → (o : Choice) (given : Bool) (bytes : List ℕ) → truthful (after h) (doing kind n o given bytes) ≡ true → Digested (after h) kind n c o given bytes

-- a call on the file of a kind's number and a number is never answered 10, and never 1 where the file exists
pub record Answered (s : System) (kind n : ℕ) (x : Call) : Type 0 where
  pub possible : answer_number (engine.step s.state (Input.call kind n x)).reply ≢ impossible
  pub found : is_kind kind ≡ true → IsFile s.state (kind_from kind) n → answer_number (engine.step s.state (Input.call kind n x)).reply ≢ no_file

unfoldable pub AlwaysAnswered : Type 0
AlwaysAnswered = (h : History) (kind n : ℕ) (x : Call) → Answered (after h) kind n x
