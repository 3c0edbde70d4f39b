-- Small runs, from mounts like that of the starred cases, which show that the disk isn't too tame: in them every command is done and fails,
-- a write lands in part, zones fall and worsen, alone and with a failure, several files are busy at once, files are opened and closed by hand up to their
-- limits, and each exception of demand 3 comes about.
use Rattle.std.specs.Prelude.{Bool, true, false, List, [], ◌∷◌, ◌++◌, ℕ, ◌*◌, set}
use Rattle.types.specs.declared.FileKind.{FileKind}
use Rattle.types.specs.declared.FileKind.TheVariants.{Conventional, Sequential}
use Rattle.types.specs.declared.Condition.{Condition}
use Rattle.types.specs.declared.Condition.TheVariants.{Healthy, ReadOnly}
use Rattle.types.specs.declared.ErrorPolicy.{ErrorPolicy}
use Rattle.types.specs.declared.ErrorPolicy.TheVariants.{RemountRo, ZoneRo, ZoneOffline, Repair}
use Rattle.types.specs.declared.Call.{Call}
use Rattle.types.specs.declared.Outstanding.{Outstanding}
use Rattle.types.specs.declared.Outstanding.TheVariants.{Idle, Busy, Unknown}
use Rattle.types.specs.Codes.{flag_code, kind_code, condition_code, access_code}
use Rattle.types.specs.Numbers.{answer_number}
use Rattle.types.specs.Stated.{Case, is, AsStated}
use Rattle.table.specs.Rows.{word_at}
use Rattle.zones.specs.declared.Zone.{Zone}
use Rattle.zones.specs.Zone.{encode_zone}
use Rattle.files.specs.Files.{seq_row}
use Rattle.mount.specs.Mount.{Mounting}
use Rattle.completion.specs.Completions.{Completion}
use Rattle.engine.specs.Engine.{Input}
use Rattle.engine.specs.Engine as engine
use Rattle.disk.specs.Disk.{DiskZone, Harm, none, to_read_only, to_offline, Mishap, Choice, reported}
use Rattle.consistency.specs.System.{System, outstanding_by, Event, call, mishap, doing, stray, digested, step, run, all_truthful, mounted, zone_of, history_of}
use Rattle.consistency.specs.Demand.{Start}
use Rattle.consistency.specs.Cases.{Setting, paper, aggregated, block512, zone4_read_only, zone4_full, by_hand, block_in, aggregates, explicit_in, open_limit_in, active_limit_in, zone, report, superblock, lent, options_text, mount_under, size_in, access_in}

-- ---- the disk of each setting

abbrev pub zone_there : ℕ → FileKind → ℕ → ℕ → Condition → DiskZone
zone_there number kind capacity pointer condition =
    record { kind = kind; start = number * 524288; length = 524288; capacity = capacity; pointer = pointer; condition = condition }

-- zone 4: empty, read-only, or full, and then its pointer stands at start+capacity, whatever it reports
abbrev pub last_there : Setting → DiskZone
last_there paper = zone_there 4 Sequential 393216 2097152 Healthy
last_there aggregated = zone_there 4 Sequential 393216 2097152 Healthy
last_there block512 = zone_there 4 Sequential 393216 2097152 Healthy
last_there zone4_read_only = zone_there 4 Sequential 393216 2097152 ReadOnly
last_there zone4_full = zone_there 4 Sequential 393216 2490368 Healthy
last_there (by_hand open_limit active_limit) = zone_there 4 Sequential 393216 2097152 Healthy

unfoldable pub disk : Setting → List DiskZone
disk x =
    zone_there 0 Conventional 524288 0 Healthy
    ∷ zone_there 1 Conventional 524288 0 Healthy
    ∷ zone_there 2 Conventional 524288 0 Healthy
    ∷ zone_there 3 Sequential 393216 1572872 Healthy
    ∷ last_there x
    ∷ []

-- ---- events

-- a call on seq/0, one on seq/1, and one on cnv/0
abbrev pub seq0 : Call → Event
seq0 x = call (kind_code Sequential) 0 x

abbrev pub seq1 : Call → Event
seq1 x = call (kind_code Sequential) 1 x

abbrev pub cnv0 : Call → Event
cnv0 x = call (kind_code Conventional) 0 x

abbrev pub write : Event
write = seq0 (Call.Write 4096 8192)

abbrev pub write1 : Event
write1 = seq1 (Call.Write 0 4096)

abbrev pub read : Event
read = seq0 (Call.Read 0 4096)

abbrev pub read1 : Event
read1 = seq1 (Call.Read 0 4096)

abbrev pub reset : Event
reset = seq0 (Call.Truncate 0)

abbrev pub finish : Event
finish = seq0 (Call.Truncate 201326592)

abbrev pub flush : Event
flush = seq0 Call.Flush

abbrev pub open0 : Event
open0 = seq0 Call.Open

abbrev pub close0 : Event
close0 = seq0 Call.Close

abbrev pub open1 : Event
open1 = seq1 Call.Open

abbrev pub close1 : Event
close1 = seq1 Call.Close

-- so many blocks back; a worse condition
abbrev pub falls : ℕ → Mishap
falls blocks = record { blocks = blocks; harm = none }

abbrev pub worsens : Harm → Mishap
worsens harm = record { blocks = 0; harm = harm }

-- the disk does the command of a file if it can, and else reports this record
abbrev pub tries_of : (kind number : ℕ) → Zone → Event
tries_of kind n r = doing kind n (record { fails = false; lands = 0; mishap = falls 0 }) true (encode_zone r)

-- it does it
abbrev pub done_of : (kind number : ℕ) → Event
done_of kind n = doing kind n (record { fails = false; lands = 0; mishap = falls 0 }) false []

-- it fails after so many blocks, with a mishap
abbrev pub failing : ℕ → Mishap → Choice
failing lands e = record { fails = true; lands = lands; mishap = e }

-- and reports this record
abbrev pub fails_of : (kind number : ℕ) → ℕ → Mishap → Zone → Event
fails_of kind n lands e r = doing kind n (failing lands e) true (encode_zone r)

-- of seq/0
abbrev pub tries : Zone → Event
tries r = tries_of (kind_code Sequential) 0 r

abbrev pub done : Event
done = done_of (kind_code Sequential) 0

abbrev pub fails : ℕ → Mishap → Zone → Event
fails lands e r = fails_of (kind_code Sequential) 0 lands e r

-- of seq/1
abbrev pub tries1 : Zone → Event
tries1 r = tries_of (kind_code Sequential) 1 r

abbrev pub done1 : Event
done1 = done_of (kind_code Sequential) 1

abbrev pub fails1 : ℕ → Mishap → Zone → Event
fails1 lands e r = fails_of (kind_code Sequential) 1 lands e r

-- of cnv/0
abbrev pub done_cnv : Event
done_cnv = done_of (kind_code Conventional) 0

abbrev pub fails_cnv : ℕ → Mishap → Zone → Event
fails_cnv lands e r = fails_of (kind_code Conventional) 0 lands e r

-- a record of zone 3, and one of zone 4: type, condition and pointer
abbrev pub zone3 : ℕ → ℕ → ℕ → Zone
zone3 kind condition pointer = zone 3 kind condition 393216 pointer

abbrev pub zone4 : ℕ → ℕ → ℕ → Zone
zone4 kind condition pointer = zone 4 kind condition 393216 pointer

-- ---- what is seen of a run

-- the numbers that are answered on the way
abbrev pub doing_reply : Outstanding → System → (kind number : ℕ) → Choice → Bool → List ℕ → List ℕ
doing_reply Idle s kind n o given bytes = []
doing_reply (Busy c) s kind n o given bytes = answer_number (digested s kind n c o given bytes).reply ∷ []
doing_reply Unknown s kind n o given bytes = []

abbrev pub stray_reply : Outstanding → System → (kind number : ℕ) → Completion → List ℕ
stray_reply Idle s kind n x = answer_number (engine.step s.state (Input.completion kind n x)).reply ∷ []
stray_reply (Busy c) s kind n x = []
stray_reply Unknown s kind n x = []

abbrev pub reply_to : System → Event → List ℕ
reply_to s (call kind n x) = answer_number (engine.step s.state (Input.call kind n x)).reply ∷ []
reply_to s (mishap i e) = []
reply_to s (doing kind n o given bytes) = doing_reply (outstanding_by s.state kind n) s kind n o given bytes
reply_to s (stray kind n x) = stray_reply (outstanding_by s.state kind n) s kind n x

unfoldable pub replies : System → List Event → List ℕ
replies s [] = []
replies s (e ∷ es) = reply_to s e ++ replies (step s e) es

-- what a row has outstanding: 0 for nothing, else 1 + the command's code
abbrev pub held_in : List ℕ → ℕ → ℕ
held_in table row = word_at table row 5

-- its opens
abbrev pub opens_in : List ℕ → ℕ → ℕ
opens_in table row = word_at table row 8

-- of seq/n: size and access of its row, those that a fresh mount gives its zone, whether it is quiet, its last size; and the read-only mark
abbrev pub seq_seen : ℕ → System → List ℕ
seq_seen n s =
    size_in s.state.seq n ∷ access_in s.state.seq n ∷ (seq_row (reported (zone_of s n))).size ∷ access_code (seq_row (reported (zone_of s n))).access
    ∷ flag_code (history_of s n).quiet ∷ (history_of s n).last_size ∷ flag_code s.state.mount.readonly ∷ []

-- of cnv/0: size and access of its row; the conditions of all zones; and the read-only mark
abbrev pub conditions : List DiskZone → List ℕ
conditions [] = []
conditions (z ∷ zs) = condition_code z.condition ∷ conditions zs

abbrev pub cnv_seen : System → List ℕ
cnv_seen s = size_in s.state.cnv 0 ∷ access_in s.state.cnv 0 ∷ (conditions s.disk ++ (flag_code s.state.mount.readonly ∷ []))

-- whether all is reported truthfully, what is answered, and what is seen in the end
abbrev pub seen_of : (System → List ℕ) → System → List Event → List ℕ
seen_of see s events = flag_code (all_truthful s events) ∷ (replies s events ++ see (run s events))

-- truthful, with these answers and this sight
abbrev pub truly : List ℕ → List ℕ → List ℕ
truly answers seen = 1 ∷ (answers ++ seen)

-- ---- the tables

module _ (under : Setting → ErrorPolicy → Mounting) where
  abbrev pub start_in : Setting → ErrorPolicy → System
  start_in x p = mounted (under x p) (disk x)

  -- seq/0 of the paper's mount, under an option
  abbrev pub on0 : ErrorPolicy → List Event → List ℕ → List ℕ → Case
  on0 p events answers seen = is (seen_of (seq_seen 0) (start_in paper p) events) (truly answers seen)

  -- what a command does, and what its failure leaves
  unfoldable pub command_runs : List Case
  command_runs =
      -- a write that is done; one of which a block lands, in truthful records of either type, with any condition byte that fits
      on0 Repair (write ∷ done ∷ []) (0 ∷ 0 ∷ []) (12288 ∷ 2 ∷ 12288 ∷ 2 ∷ 1 ∷ 12288 ∷ 0 ∷ [])
      ∷ on0 Repair (write ∷ fails 1 (falls 0) (zone3 2 2 1572880) ∷ []) (0 ∷ 7 ∷ []) (8192 ∷ 2 ∷ 8192 ∷ 2 ∷ 1 ∷ 8192 ∷ 0 ∷ [])
      ∷ on0 Repair (write ∷ fails 1 (falls 0) (zone3 3 4 1572880) ∷ []) (0 ∷ 7 ∷ []) (8192 ∷ 2 ∷ 8192 ∷ 2 ∷ 1 ∷ 8192 ∷ 0 ∷ [])
      ∷ on0 Repair (write ∷ fails 2 (falls 0) (zone3 3 1 1572888) ∷ []) (0 ∷ 7 ∷ []) (12288 ∷ 2 ∷ 12288 ∷ 2 ∷ 1 ∷ 12288 ∷ 0 ∷ [])
      -- bytes that are ignored may be anything
      ∷ on0 Repair (write ∷ doing (kind_code Sequential) 0 (failing 1 (falls 0)) true (set (encode_zone (zone3 2 2 1572880)) 63 9) ∷ []) (0 ∷ 7 ∷ []) (8192 ∷ 2 ∷ 8192 ∷ 2 ∷ 1 ∷ 8192 ∷ 0 ∷ [])
      -- a reset, a finish and a flush, each done and failed
      ∷ on0 Repair (reset ∷ done ∷ []) (0 ∷ 0 ∷ []) (0 ∷ 2 ∷ 0 ∷ 2 ∷ 1 ∷ 0 ∷ 0 ∷ [])
      ∷ on0 Repair (reset ∷ fails 0 (falls 0) (zone3 2 2 1572872) ∷ []) (0 ∷ 7 ∷ []) (4096 ∷ 2 ∷ 4096 ∷ 2 ∷ 1 ∷ 4096 ∷ 0 ∷ [])
      ∷ on0 Repair (finish ∷ done ∷ []) (0 ∷ 0 ∷ []) (201326592 ∷ 2 ∷ 201326592 ∷ 2 ∷ 1 ∷ 201326592 ∷ 0 ∷ [])
      ∷ on0 Repair (finish ∷ fails 0 (falls 0) (zone3 2 2 1572872) ∷ []) (0 ∷ 7 ∷ []) (4096 ∷ 2 ∷ 4096 ∷ 2 ∷ 1 ∷ 4096 ∷ 0 ∷ [])
      ∷ on0 Repair (flush ∷ done ∷ []) (0 ∷ 0 ∷ []) (4096 ∷ 2 ∷ 4096 ∷ 2 ∷ 1 ∷ 4096 ∷ 0 ∷ [])
      ∷ on0 Repair (flush ∷ fails 0 (falls 0) (zone3 2 2 1572872) ∷ []) (0 ∷ 7 ∷ []) (4096 ∷ 2 ∷ 4096 ∷ 2 ∷ 1 ∷ 4096 ∷ 0 ∷ [])
      -- a failed read with nothing lost recovers nothing, also under zone-ro
      ∷ on0 ZoneRo (read ∷ fails 0 (falls 0) (zone3 2 2 1572872) ∷ []) (0 ∷ 7 ∷ []) (4096 ∷ 2 ∷ 4096 ∷ 2 ∷ 1 ∷ 4096 ∷ 0 ∷ [])
      -- a completion with nothing outstanding, and completions of no file
      ∷ on0 Repair (stray 1 0 Completion.good ∷ stray 1 2 Completion.good ∷ stray 2 0 Completion.malformed ∷ []) (8 ∷ 1 ∷ 1 ∷ []) (4096 ∷ 2 ∷ 4096 ∷ 2 ∷ 1 ∷ 4096 ∷ 0 ∷ [])
      -- and one while a command is outstanding on its file is no entry: the disk answers that command
      ∷ on0 Repair (write ∷ stray 1 0 Completion.good ∷ []) (0 ∷ []) (4096 ∷ 2 ∷ 4096 ∷ 2 ∷ 1 ∷ 4096 ∷ 0 ∷ [])
      -- a record that says a block landed which didn't is not truthful
      ∷ is (seen_of (seq_seen 0) (start_in paper Repair) (write ∷ fails 0 (falls 0) (zone3 2 2 1572880) ∷ [])) (0 ∷ 0 ∷ 7 ∷ 8192 ∷ 2 ∷ 4096 ∷ 2 ∷ 1 ∷ 4096 ∷ 0 ∷ [])
      -- a kind that there isn't
      ∷ on0 Repair (call 2 0 Call.Flush ∷ []) (1 ∷ []) (4096 ∷ 2 ∷ 4096 ∷ 2 ∷ 1 ∷ 4096 ∷ 0 ∷ [])
      ∷ []

  -- what befalls a zone, alone or with a failure
  unfoldable pub mishap_runs : List Case
  mishap_runs =
      -- a fall: a good read shows nothing of it; the next write or flush must fail, and then the row knows
      on0 Repair (mishap 3 (falls 1) ∷ read ∷ done ∷ []) (0 ∷ 0 ∷ []) (4096 ∷ 2 ∷ 0 ∷ 2 ∷ 0 ∷ 4096 ∷ 0 ∷ [])
      ∷ on0 Repair (mishap 3 (falls 1) ∷ write ∷ tries (zone3 2 1 1572864) ∷ []) (0 ∷ 7 ∷ []) (0 ∷ 2 ∷ 0 ∷ 2 ∷ 1 ∷ 0 ∷ 0 ∷ [])
      ∷ on0 Repair (mishap 3 (falls 1) ∷ flush ∷ tries (zone3 2 1 1572864) ∷ []) (0 ∷ 7 ∷ []) (0 ∷ 2 ∷ 0 ∷ 2 ∷ 1 ∷ 0 ∷ 0 ∷ [])
      -- of two blocks one can be fallen; and a fall of no block is none
      ∷ on0 Repair (mishap 3 (falls 2) ∷ []) [] (4096 ∷ 2 ∷ 0 ∷ 2 ∷ 0 ∷ 4096 ∷ 0 ∷ [])
      ∷ on0 Repair (mishap 3 (falls 0) ∷ []) [] (4096 ∷ 2 ∷ 4096 ∷ 2 ∷ 1 ∷ 4096 ∷ 0 ∷ [])
      -- of three blocks one, as two were written before: the last size is theirs
      ∷ on0 Repair (write ∷ done ∷ mishap 3 (falls 1) ∷ []) (0 ∷ 0 ∷ []) (12288 ∷ 2 ∷ 8192 ∷ 2 ∷ 0 ∷ 12288 ∷ 0 ∷ [])
      -- a fall with a failure
      ∷ on0 Repair (write ∷ fails 1 (falls 2) (zone3 2 1 1572864) ∷ []) (0 ∷ 7 ∷ []) (0 ∷ 2 ∷ 0 ∷ 2 ∷ 1 ∷ 0 ∷ 0 ∷ [])
      -- read-only, alone: reads are done, and nothing else; the record's pointer may be anything
      ∷ on0 Repair (mishap 3 (worsens to_read_only) ∷ read ∷ done ∷ []) (0 ∷ 0 ∷ []) (4096 ∷ 2 ∷ 0 ∷ 0 ∷ 0 ∷ 4096 ∷ 0 ∷ [])
      ∷ on0 Repair (mishap 3 (worsens to_read_only) ∷ write ∷ tries (zone3 2 13 7) ∷ []) (0 ∷ 7 ∷ []) (4096 ∷ 1 ∷ 0 ∷ 0 ∷ 1 ∷ 4096 ∷ 0 ∷ [])
      ∷ on0 Repair (mishap 3 (worsens to_read_only) ∷ reset ∷ tries (zone3 2 13 7) ∷ []) (0 ∷ 7 ∷ []) (4096 ∷ 1 ∷ 0 ∷ 0 ∷ 1 ∷ 4096 ∷ 0 ∷ [])
      ∷ on0 Repair (mishap 3 (worsens to_read_only) ∷ finish ∷ tries (zone3 2 13 7) ∷ []) (0 ∷ 7 ∷ []) (4096 ∷ 1 ∷ 0 ∷ 0 ∷ 1 ∷ 4096 ∷ 0 ∷ [])
      -- known to be read-only, its pointer falls: that is no mishap
      ∷ on0 Repair (write ∷ fails 0 (worsens to_read_only) (zone3 2 13 0) ∷ mishap 3 (falls 1) ∷ []) (0 ∷ 7 ∷ []) (4096 ∷ 1 ∷ 0 ∷ 0 ∷ 1 ∷ 4096 ∷ 0 ∷ [])
      -- offline: nothing is done, not even a read; and it is never better than that
      ∷ on0 Repair (mishap 3 (worsens to_offline) ∷ read ∷ tries (zone3 2 15 0) ∷ []) (0 ∷ 7 ∷ []) (0 ∷ 0 ∷ 0 ∷ 0 ∷ 1 ∷ 4096 ∷ 0 ∷ [])
      ∷ on0 Repair (mishap 3 (worsens to_offline) ∷ mishap 3 (worsens to_read_only) ∷ read ∷ tries (zone3 2 15 0) ∷ []) (0 ∷ 7 ∷ []) (0 ∷ 0 ∷ 0 ∷ 0 ∷ 1 ∷ 4096 ∷ 0 ∷ [])
      ∷ []

  -- the exceptions, under each option that they concern
  unfoldable pub exception_runs : List Case
  exception_runs =
      -- remount-ro: the mount turns read-only, and the next write is refused
      on0 RemountRo (write ∷ fails 1 (falls 0) (zone3 2 2 1572880) ∷ write ∷ []) (0 ∷ 7 ∷ 3 ∷ []) (8192 ∷ 2 ∷ 8192 ∷ 2 ∷ 1 ∷ 8192 ∷ 1 ∷ [])
      -- "Under zone-offline a recovered file shows 0 and can't be read."
      ∷ on0 ZoneOffline (write ∷ fails 1 (falls 0) (zone3 2 2 1572880) ∷ []) (0 ∷ 7 ∷ []) (0 ∷ 0 ∷ 8192 ∷ 2 ∷ 1 ∷ 8192 ∷ 0 ∷ [])
      ∷ on0 ZoneOffline (write ∷ fails 1 (worsens to_read_only) (zone3 2 13 0) ∷ []) (0 ∷ 7 ∷ []) (0 ∷ 0 ∷ 0 ∷ 0 ∷ 1 ∷ 4096 ∷ 0 ∷ [])
      -- "Under the other options one whose zone is read-only, and wasn't at mount, keeps its last size and can be read."
      ∷ on0 RemountRo (write ∷ fails 1 (worsens to_read_only) (zone3 2 13 0) ∷ []) (0 ∷ 7 ∷ []) (4096 ∷ 1 ∷ 0 ∷ 0 ∷ 1 ∷ 4096 ∷ 1 ∷ [])
      ∷ on0 ZoneRo (write ∷ fails 1 (worsens to_read_only) (zone3 2 13 0) ∷ []) (0 ∷ 7 ∷ []) (4096 ∷ 1 ∷ 0 ∷ 0 ∷ 1 ∷ 4096 ∷ 0 ∷ [])
      ∷ on0 Repair (write ∷ fails 1 (worsens to_read_only) (zone3 2 13 0) ∷ []) (0 ∷ 7 ∷ []) (4096 ∷ 1 ∷ 0 ∷ 0 ∷ 1 ∷ 4096 ∷ 0 ∷ [])
      -- "Under zone-ro a recovered one with a healthy zone has that size, but can only be read."
      ∷ on0 ZoneRo (write ∷ fails 1 (falls 0) (zone3 2 2 1572880) ∷ []) (0 ∷ 7 ∷ []) (8192 ∷ 1 ∷ 8192 ∷ 2 ∷ 1 ∷ 8192 ∷ 0 ∷ [])
      ∷ []

  -- seq/1 of the mount whose zone 4 is full, under an option
  abbrev pub on1 : ErrorPolicy → List Event → List ℕ → List ℕ → Case
  on1 p events answers seen = is (seen_of (seq_seen 1) (start_in zone4_full p) events) (truly answers seen)

  -- 02: full zones
  unfoldable pub full_runs : List Case
  full_runs =
      -- "the size is the capacity, at mount"
      on1 Repair [] [] (201326592 ∷ 2 ∷ 201326592 ∷ 2 ∷ 1 ∷ 201326592 ∷ 0 ∷ [])
      -- ".. and in a completion's record", whatever its pointer is: where the last block landed, or the file had the size already
      ∷ on0 Repair (seq0 (Call.Write 4096 201322496) ∷ fails 49151 (falls 0) (zone3 2 14 0) ∷ []) (0 ∷ 7 ∷ []) (201326592 ∷ 2 ∷ 201326592 ∷ 2 ∷ 1 ∷ 201326592 ∷ 0 ∷ [])
      ∷ on1 ZoneRo (seq1 Call.Flush ∷ fails1 0 (falls 0) (zone4 3 14 18446744073709551615) ∷ []) (0 ∷ 7 ∷ []) (201326592 ∷ 1 ∷ 201326592 ∷ 2 ∷ 1 ∷ 201326592 ∷ 0 ∷ [])
      -- ".. also in a failed read's test": nothing is lost, and nothing recovered
      ∷ on1 ZoneRo (seq1 (Call.Read 0 4096) ∷ fails1 0 (falls 0) (zone4 2 14 0) ∷ []) (0 ∷ 7 ∷ []) (201326592 ∷ 2 ∷ 201326592 ∷ 2 ∷ 1 ∷ 201326592 ∷ 0 ∷ [])
      -- "a full zone's pointer stands at start+capacity, and a mishap moves it from there"
      ∷ on1 Repair (mishap 4 (falls 1) ∷ []) [] (201326592 ∷ 2 ∷ 201322496 ∷ 2 ∷ 0 ∷ 201326592 ∷ 0 ∷ [])
      ∷ on1 Repair (mishap 4 (falls 1) ∷ seq1 Call.Flush ∷ tries1 (zone4 2 2 2490360) ∷ []) (0 ∷ 7 ∷ []) (201322496 ∷ 2 ∷ 201322496 ∷ 2 ∷ 1 ∷ 201322496 ∷ 0 ∷ [])
      -- "any pointer while full": from then on it is full no more, and a record that says it is isn't truthful
      ∷ is (seen_of (seq_seen 1) (start_in zone4_full Repair) (mishap 4 (falls 1) ∷ seq1 Call.Flush ∷ tries1 (zone4 2 14 2490360) ∷ []))
      (0 ∷ 0 ∷ 7 ∷ 201326592 ∷ 2 ∷ 201322496 ∷ 2 ∷ 1 ∷ 201322496 ∷ 0 ∷ [])
      -- and once reset it is written like any other
      ∷ on1 Repair (seq1 (Call.Truncate 0) ∷ done1 ∷ seq1 (Call.Write 0 4096) ∷ done1 ∷ []) (0 ∷ 0 ∷ 0 ∷ 0 ∷ []) (4096 ∷ 2 ∷ 4096 ∷ 2 ∷ 1 ∷ 4096 ∷ 0 ∷ [])
      ∷ []

  -- other files, and other mounts
  unfoldable pub other_runs : List Case
  other_runs =
      -- seq/1
      is (seen_of (seq_seen 1) (start_in paper Repair) (call 1 1 (Call.Write 0 4096) ∷ done1 ∷ [])) (truly (0 ∷ 0 ∷ []) (4096 ∷ 2 ∷ 4096 ∷ 2 ∷ 1 ∷ 4096 ∷ 0 ∷ []))
      -- one whose zone was read-only at mount can't be read, and isn't among the exceptions
      ∷ is (seen_of (seq_seen 1) (start_in zone4_read_only Repair) (call 1 1 (Call.Read 0 4096) ∷ [])) (truly (4 ∷ []) (0 ∷ 0 ∷ 0 ∷ 0 ∷ 1 ∷ 0 ∷ 0 ∷ []))
      -- with block 512: a write of one block, and a fall of one
      ∷ is (seen_of (seq_seen 0) (start_in block512 Repair) (seq0 (Call.Write 4096 512) ∷ done ∷ [])) (truly (0 ∷ 0 ∷ []) (4608 ∷ 2 ∷ 4608 ∷ 2 ∷ 1 ∷ 4608 ∷ 0 ∷ []))
      ∷ is (seen_of (seq_seen 0) (start_in block512 Repair) (mishap 3 (falls 1) ∷ [])) (truly [] (4096 ∷ 2 ∷ 3584 ∷ 2 ∷ 0 ∷ 4096 ∷ 0 ∷ []))
      -- a conventional file takes a write anywhere, and its size never moves; under remount-ro its failure marks the mount too
      ∷ is (seen_of cnv_seen (start_in paper RemountRo) (cnv0 (Call.Write 8192 100) ∷ done_cnv ∷ [])) (truly (0 ∷ 0 ∷ []) (268435456 ∷ 2 ∷ 0 ∷ 0 ∷ 0 ∷ 0 ∷ 0 ∷ 0 ∷ []))
      ∷ is (seen_of cnv_seen (start_in paper RemountRo) (cnv0 (Call.Write 8192 100) ∷ fails_cnv 0 (falls 0) (zone 1 1 0 524288 9) ∷ []))
      (truly (0 ∷ 7 ∷ []) (268435456 ∷ 2 ∷ 0 ∷ 0 ∷ 0 ∷ 0 ∷ 0 ∷ 1 ∷ []))
      -- where the flag "capacity given" is clear, the record's capacity is its length, whatever it says
      ∷ is (seen_of cnv_seen (start_in paper Repair) (cnv0 (Call.Read 0 100) ∷ doing (kind_code Conventional) 0 (failing 0 (worsens to_offline)) false (encode_zone (zone 1 1 15 7 9)) ∷ []))
      (truly (0 ∷ 7 ∷ []) (0 ∷ 0 ∷ 0 ∷ 2 ∷ 0 ∷ 0 ∷ 0 ∷ 0 ∷ []))
      -- an aggregated run: the zone at the command's address is its second
      ∷ is (seen_of cnv_seen (start_in aggregated Repair) (cnv0 (Call.Write 268435456 4096) ∷ fails_cnv 0 (worsens to_read_only) (zone 2 1 13 524288 0) ∷ []))
      (truly (0 ∷ 7 ∷ []) (536870912 ∷ 1 ∷ 0 ∷ 0 ∷ 1 ∷ 0 ∷ 0 ∷ 0 ∷ []))
      ∷ []

  -- seq/0 and seq/1 of the paper's mount, and cnv/0: the sizes of the first two, those that a fresh mount gives, whether they are quiet; what each of
  -- the three has outstanding; and the read-only mark
  abbrev pub three_seen : System → List ℕ
  three_seen s =
      size_in s.state.seq 0 ∷ size_in s.state.seq 1 ∷ (seq_row (reported (zone_of s 0))).size ∷ (seq_row (reported (zone_of s 1))).size
      ∷ flag_code (history_of s 0).quiet ∷ flag_code (history_of s 1).quiet ∷ held_in s.state.seq 0 ∷ held_in s.state.seq 1 ∷ held_in s.state.cnv 0
      ∷ flag_code s.state.mount.readonly ∷ []

  abbrev pub on_three : ErrorPolicy → List Event → List ℕ → List ℕ → Case
  on_three p events answers seen = is (seen_of three_seen (start_in paper p) events) (truly answers seen)

  -- 02: "each file may have one outstanding"
  unfoldable pub busy_runs : List Case
  busy_runs =
      -- two files busy at once: a call on either is answered 2, one on another file isn't; a completion of a free file is answered 8
      on_three Repair (write ∷ write1 ∷ flush ∷ seq1 Call.Flush ∷ cnv0 Call.Flush ∷ stray 0 1 Completion.good ∷ []) (0 ∷ 0 ∷ 2 ∷ 2 ∷ 0 ∷ 8 ∷ []) (4096 ∷ 0 ∷ 4096 ∷ 0 ∷ 1 ∷ 1 ∷ 2 ∷ 2 ∷ 5 ∷ 0 ∷ [])
      -- done in another order than issued, with calls between
      ∷ on_three Repair (write ∷ write1 ∷ done1 ∷ read1 ∷ done ∷ []) (0 ∷ 0 ∷ 0 ∷ 0 ∷ 0 ∷ []) (12288 ∷ 4096 ∷ 12288 ∷ 4096 ∷ 1 ∷ 1 ∷ 0 ∷ 1 ∷ 0 ∷ 0 ∷ [])
      -- three files, the last issued done first, and one that fails
      ∷ on_three Repair (write ∷ write1 ∷ cnv0 (Call.Write 8192 100) ∷ done_cnv ∷ fails1 0 (falls 0) (zone4 2 1 2097152) ∷ done ∷ []) (0 ∷ 0 ∷ 0 ∷ 0 ∷ 7 ∷ 0 ∷ []) (12288 ∷ 0 ∷ 12288 ∷ 0 ∷ 1 ∷ 1 ∷ 0 ∷ 0 ∷ 0 ∷ 0 ∷ [])
      -- a doing of a file with nothing outstanding does nothing, whatever the others have
      ∷ on_three Repair (write ∷ done1 ∷ []) (0 ∷ []) (4096 ∷ 0 ∷ 4096 ∷ 0 ∷ 1 ∷ 1 ∷ 2 ∷ 0 ∷ 0 ∷ 0 ∷ [])
      -- a mishap in one file's zone while both are busy: that file's write must fail, and the other's is done
      ∷ on_three Repair (write ∷ write1 ∷ mishap 3 (falls 1) ∷ done1 ∷ tries (zone3 2 1 1572864) ∷ []) (0 ∷ 0 ∷ 0 ∷ 7 ∷ []) (0 ∷ 4096 ∷ 0 ∷ 4096 ∷ 1 ∷ 1 ∷ 0 ∷ 0 ∷ 0 ∷ 0 ∷ [])
      -- "A remount-ro recovery leaves other files' commands outstanding; they complete as usual": the write of seq/1 moves its size on a mount that
      -- is read-only then, on which a new write is refused
      ∷ on_three RemountRo (write ∷ write1 ∷ fails 1 (falls 0) (zone3 2 2 1572880) ∷ []) (0 ∷ 0 ∷ 7 ∷ []) (8192 ∷ 0 ∷ 8192 ∷ 0 ∷ 1 ∷ 1 ∷ 0 ∷ 2 ∷ 0 ∷ 1 ∷ [])
      ∷ on_three RemountRo (write ∷ write1 ∷ fails 1 (falls 0) (zone3 2 2 1572880) ∷ done1 ∷ write1 ∷ []) (0 ∷ 0 ∷ 7 ∷ 0 ∷ 3 ∷ []) (8192 ∷ 4096 ∷ 8192 ∷ 4096 ∷ 1 ∷ 1 ∷ 0 ∷ 0 ∷ 0 ∷ 1 ∷ [])
      ∷ []

  -- seq/0 and seq/1: the opens of each, and what each has outstanding; of seq/0 size and access, and whether it is quiet; and the account: how many
  -- files are open, and how many active
  abbrev pub open_seen : System → List ℕ
  open_seen s =
      opens_in s.state.seq 0 ∷ opens_in s.state.seq 1 ∷ held_in s.state.seq 0 ∷ held_in s.state.seq 1
      ∷ size_in s.state.seq 0 ∷ access_in s.state.seq 0 ∷ flag_code (history_of s 0).quiet
      ∷ s.state.mount.account.opened ∷ s.state.mount.account.active ∷ []

  abbrev pub on_opens : Setting → ErrorPolicy → List Event → List ℕ → List ℕ → Case
  on_opens x p events answers seen = is (seen_of open_seen (start_in x p) events) (truly answers seen)

  -- 02: opening by hand. From the mount on seq/0, of 4096 bytes, is active, and seq/1, which is empty, isn't
  unfoldable pub open_runs : List Case
  open_runs =
      -- "The first open of a file that isn't full commands a zone open", and it is open from then on; a write comes after it
      on_opens (by_hand 0 0) Repair (open0 ∷ []) (0 ∷ []) (1 ∷ 0 ∷ 6 ∷ 0 ∷ 4096 ∷ 2 ∷ 1 ∷ 1 ∷ 1 ∷ [])
      ∷ on_opens (by_hand 0 0) Repair (open0 ∷ done ∷ write ∷ done ∷ []) (0 ∷ 0 ∷ 0 ∷ 0 ∷ []) (1 ∷ 0 ∷ 0 ∷ 0 ∷ 12288 ∷ 2 ∷ 1 ∷ 1 ∷ 1 ∷ [])
      -- "so does a seq write to a file not open": 13
      ∷ on_opens (by_hand 0 0) Repair (write ∷ []) (13 ∷ []) (0 ∷ 0 ∷ 0 ∷ 0 ∷ 4096 ∷ 2 ∷ 1 ∷ 0 ∷ 1 ∷ [])
      -- an empty file becomes active by its first open; "others are answered 0"
      ∷ on_opens (by_hand 0 0) Repair (open1 ∷ done1 ∷ open1 ∷ []) (0 ∷ 0 ∷ 0 ∷ []) (0 ∷ 2 ∷ 0 ∷ 0 ∷ 4096 ∷ 2 ∷ 1 ∷ 1 ∷ 2 ∷ [])
      -- "the last close of one neither empty nor full a zone close; others are answered 0"; without an open 13
      ∷ on_opens (by_hand 0 0) Repair (open0 ∷ done ∷ open0 ∷ close0 ∷ close0 ∷ []) (0 ∷ 0 ∷ 0 ∷ 0 ∷ 0 ∷ []) (0 ∷ 0 ∷ 7 ∷ 0 ∷ 4096 ∷ 2 ∷ 1 ∷ 0 ∷ 1 ∷ [])
      ∷ on_opens (by_hand 0 0) Repair (open0 ∷ done ∷ close0 ∷ done ∷ close0 ∷ []) (0 ∷ 0 ∷ 0 ∷ 0 ∷ 13 ∷ []) (0 ∷ 0 ∷ 0 ∷ 0 ∷ 4096 ∷ 2 ∷ 1 ∷ 0 ∷ 1 ∷ [])
      ∷ on_opens (by_hand 0 0) Repair (open1 ∷ done1 ∷ close1 ∷ []) (0 ∷ 0 ∷ 0 ∷ []) (0 ∷ 0 ∷ 0 ∷ 0 ∷ 4096 ∷ 2 ∷ 1 ∷ 0 ∷ 1 ∷ [])
      -- of a full one neither is commanded, and it isn't active, until it is reset
      ∷ on_opens (by_hand 0 0) Repair (finish ∷ done ∷ open0 ∷ []) (0 ∷ 0 ∷ 0 ∷ []) (1 ∷ 0 ∷ 0 ∷ 0 ∷ 201326592 ∷ 2 ∷ 1 ∷ 1 ∷ 0 ∷ [])
      ∷ on_opens (by_hand 0 0) Repair (finish ∷ done ∷ open0 ∷ close0 ∷ []) (0 ∷ 0 ∷ 0 ∷ 0 ∷ []) (0 ∷ 0 ∷ 0 ∷ 0 ∷ 201326592 ∷ 2 ∷ 1 ∷ 0 ∷ 0 ∷ [])
      ∷ on_opens (by_hand 0 0) Repair (finish ∷ done ∷ open0 ∷ reset ∷ done ∷ []) (0 ∷ 0 ∷ 0 ∷ 0 ∷ 0 ∷ []) (1 ∷ 0 ∷ 0 ∷ 0 ∷ 0 ∷ 2 ∷ 1 ∷ 1 ∷ 1 ∷ [])
      -- "an open that would raise the open count above its limit answers 11": of one file, and of one that is open already it raises nothing
      ∷ on_opens (by_hand 1 0) Repair (open0 ∷ done ∷ open1 ∷ open0 ∷ []) (0 ∷ 0 ∷ 11 ∷ 0 ∷ []) (2 ∷ 0 ∷ 0 ∷ 0 ∷ 4096 ∷ 2 ∷ 1 ∷ 1 ∷ 1 ∷ [])
      -- ".. the active count 12": of one file, which is active already
      ∷ on_opens (by_hand 0 1) Repair (open0 ∷ done ∷ open1 ∷ []) (0 ∷ 0 ∷ 12 ∷ []) (1 ∷ 0 ∷ 0 ∷ 0 ∷ 4096 ∷ 2 ∷ 1 ∷ 1 ∷ 1 ∷ [])
      -- "in that order"
      ∷ on_opens (by_hand 1 1) Repair (open1 ∷ open0 ∷ done ∷ open1 ∷ []) (12 ∷ 0 ∷ 0 ∷ 11 ∷ []) (1 ∷ 0 ∷ 0 ∷ 0 ∷ 4096 ∷ 2 ∷ 1 ∷ 1 ∷ 1 ∷ [])
      -- of two files each, both can be open and active; and a close makes room from the moment that it is commanded
      ∷ on_opens (by_hand 2 2) Repair (open0 ∷ open1 ∷ done ∷ done1 ∷ []) (0 ∷ 0 ∷ 0 ∷ 0 ∷ []) (1 ∷ 1 ∷ 0 ∷ 0 ∷ 4096 ∷ 2 ∷ 1 ∷ 2 ∷ 2 ∷ [])
      ∷ on_opens (by_hand 1 0) Repair (open0 ∷ done ∷ close0 ∷ open1 ∷ []) (0 ∷ 0 ∷ 0 ∷ 0 ∷ []) (0 ∷ 1 ∷ 7 ∷ 6 ∷ 4096 ∷ 2 ∷ 1 ∷ 1 ∷ 2 ∷ [])
      -- "A file is open .. until .. a failed open": a close is answered 13 then; a fall may come with the failure
      ∷ on_opens (by_hand 0 0) Repair (open0 ∷ fails 0 (falls 0) (zone3 2 2 1572872) ∷ close0 ∷ []) (0 ∷ 7 ∷ 13 ∷ []) (0 ∷ 0 ∷ 0 ∷ 0 ∷ 4096 ∷ 2 ∷ 1 ∷ 0 ∷ 1 ∷ [])
      ∷ on_opens (by_hand 0 0) Repair (open1 ∷ fails1 0 (falls 0) (zone4 2 1 2097152) ∷ close1 ∷ []) (0 ∷ 7 ∷ 13 ∷ []) (0 ∷ 0 ∷ 0 ∷ 0 ∷ 4096 ∷ 2 ∷ 1 ∷ 0 ∷ 1 ∷ [])
      ∷ on_opens (by_hand 0 0) Repair (open0 ∷ fails 0 (falls 1) (zone3 2 1 1572864) ∷ []) (0 ∷ 7 ∷ []) (0 ∷ 0 ∷ 0 ∷ 0 ∷ 0 ∷ 2 ∷ 1 ∷ 0 ∷ 0 ∷ [])
      -- a close that fails leaves it closed all the same; its record may have condition 4, that of another command 3
      ∷ on_opens (by_hand 0 0) Repair (open0 ∷ done ∷ close0 ∷ fails 0 (falls 0) (zone3 2 4 1572872) ∷ close0 ∷ []) (0 ∷ 0 ∷ 0 ∷ 7 ∷ 13 ∷ []) (0 ∷ 0 ∷ 0 ∷ 0 ∷ 4096 ∷ 2 ∷ 1 ∷ 0 ∷ 1 ∷ [])
      ∷ on_opens (by_hand 0 0) Repair (open0 ∷ done ∷ write ∷ fails 1 (falls 0) (zone3 2 3 1572880) ∷ []) (0 ∷ 0 ∷ 0 ∷ 7 ∷ []) (1 ∷ 0 ∷ 0 ∷ 0 ∷ 8192 ∷ 2 ∷ 1 ∷ 1 ∷ 1 ∷ [])
      -- ".. or the loss of write access"
      ∷ on_opens (by_hand 0 0) Repair (open0 ∷ done ∷ write ∷ fails 1 (worsens to_read_only) (zone3 2 13 0) ∷ close0 ∷ []) (0 ∷ 0 ∷ 0 ∷ 7 ∷ 13 ∷ []) (0 ∷ 0 ∷ 0 ∷ 0 ∷ 4096 ∷ 1 ∷ 1 ∷ 0 ∷ 0 ∷ [])
      ∷ on_opens (by_hand 0 0) ZoneRo (open0 ∷ done ∷ write ∷ fails 1 (falls 0) (zone3 2 2 1572880) ∷ close0 ∷ []) (0 ∷ 0 ∷ 0 ∷ 7 ∷ 13 ∷ []) (0 ∷ 0 ∷ 0 ∷ 0 ∷ 8192 ∷ 1 ∷ 1 ∷ 0 ∷ 0 ∷ [])
      -- "On the disk open and close .. fail on an unhealthy zone"
      ∷ on_opens (by_hand 0 0) Repair (mishap 3 (worsens to_read_only) ∷ open0 ∷ tries (zone3 2 13 7) ∷ []) (0 ∷ 7 ∷ []) (0 ∷ 0 ∷ 0 ∷ 0 ∷ 4096 ∷ 1 ∷ 1 ∷ 0 ∷ 0 ∷ [])
      ∷ on_opens (by_hand 0 0) Repair (open0 ∷ done ∷ mishap 3 (worsens to_read_only) ∷ close0 ∷ tries (zone3 2 13 7) ∷ []) (0 ∷ 0 ∷ 0 ∷ 7 ∷ []) (0 ∷ 0 ∷ 0 ∷ 0 ∷ 4096 ∷ 1 ∷ 1 ∷ 0 ∷ 0 ∷ [])
      -- ".. done well count as a good read": neither shows anything of a fall
      ∷ on_opens (by_hand 0 0) Repair (mishap 3 (falls 1) ∷ open0 ∷ done ∷ []) (0 ∷ 0 ∷ []) (1 ∷ 0 ∷ 0 ∷ 0 ∷ 4096 ∷ 2 ∷ 0 ∷ 1 ∷ 1 ∷ [])
      ∷ on_opens (by_hand 0 0) Repair (open0 ∷ done ∷ mishap 3 (falls 1) ∷ close0 ∷ done ∷ []) (0 ∷ 0 ∷ 0 ∷ 0 ∷ []) (0 ∷ 0 ∷ 0 ∷ 0 ∷ 4096 ∷ 2 ∷ 0 ∷ 0 ∷ 1 ∷ [])
      -- "A close skips 3": on a mount that a recovery marked read-only
      ∷ on_opens (by_hand 0 0) RemountRo (open0 ∷ done ∷ write ∷ fails 1 (falls 0) (zone3 2 2 1572880) ∷ open1 ∷ close0 ∷ []) (0 ∷ 0 ∷ 0 ∷ 7 ∷ 3 ∷ 0 ∷ []) (0 ∷ 0 ∷ 7 ∷ 0 ∷ 8192 ∷ 2 ∷ 1 ∷ 0 ∷ 1 ∷ [])
      -- "Without the option they only count and command nothing", and an open file that is empty isn't active
      ∷ on_opens paper Repair (open0 ∷ open0 ∷ open1 ∷ []) (0 ∷ 0 ∷ 0 ∷ []) (2 ∷ 1 ∷ 0 ∷ 0 ∷ 4096 ∷ 2 ∷ 1 ∷ 2 ∷ 1 ∷ [])
      ∷ on_opens paper Repair (open0 ∷ close0 ∷ close0 ∷ write ∷ done ∷ []) (0 ∷ 0 ∷ 13 ∷ 0 ∷ 0 ∷ []) (0 ∷ 0 ∷ 0 ∷ 0 ∷ 12288 ∷ 2 ∷ 1 ∷ 0 ∷ 1 ∷ [])
      -- "on cnv both are answered 0 after 2"
      ∷ on_opens (by_hand 1 1) Repair (cnv0 Call.Open ∷ cnv0 Call.Close ∷ cnv0 Call.Flush ∷ cnv0 Call.Open ∷ []) (0 ∷ 0 ∷ 0 ∷ 2 ∷ []) (0 ∷ 0 ∷ 0 ∷ 0 ∷ 4096 ∷ 2 ∷ 1 ∷ 0 ∷ 1 ∷ [])
      ∷ []

-- the runs are of those that demand 3 speaks of, and each ends as its table says
pub record Runs : Type 0 where
  pub starts : (x : Setting) (p : ErrorPolicy)
      → Start (block_in x) (superblock (aggregates x)) (options_text (explicit_in x) p) (report x) (open_limit_in x) (active_limit_in x) lent lent (disk x)
  pub commands : AsStated (command_runs mount_under)
  pub mishaps : AsStated (mishap_runs mount_under)
  pub exceptions : AsStated (exception_runs mount_under)
  pub full : AsStated (full_runs mount_under)
  pub others : AsStated (other_runs mount_under)
  pub busy : AsStated (busy_runs mount_under)
  pub opens : AsStated (open_runs mount_under)
