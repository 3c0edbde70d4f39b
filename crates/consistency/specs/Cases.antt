-- The starred cases of the papers, in their order: "proved as a single table with one claim about the definitions". All of it from bytes.
-- "Block 4096, five zones of 524288 sectors; 0 to 2 conventional; zone 3 sequential, condition 2, start 1572864, capacity 393216
-- (201326592 bytes), pointer 1572872; zone 4 alike in capacity, empty; repair."
use Rattle.std.specs.Prelude.{Bool, true, false, List, [], ◌∷◌, ◌++◌, ℕ, ◌*◌, replicate}
use Rattle.types.specs.declared.FileKind.TheVariants.{Sequential}
use Rattle.types.specs.declared.ErrorPolicy.{ErrorPolicy}
use Rattle.types.specs.declared.ErrorPolicy.TheVariants.{RemountRo, ZoneRo, ZoneOffline, Repair}
use Rattle.types.specs.declared.Call.{Call}
use Rattle.types.specs.Answers.{Answer}
use Rattle.types.specs.Codes.{flag_code, kind_code}
use Rattle.types.specs.Numbers.{answer_number, answer_values, mount_number, mount_values}
use Rattle.types.specs.Stated.{Case, is, AsStated}
use Rattle.table.specs.Rows.{row_width, word_at}
use Rattle.text.specs.Text.{ascii}
use Rattle.superblock.specs.SuperBlock.{encode_super}
use Rattle.zones.specs.declared.Zone.{Zone}
use Rattle.zones.specs.Zone.{encode_zone}
use Rattle.report.specs.Report.{encode_report}
use Rattle.mount.specs.Mount.{Mounting, mount_outcome}
use Rattle.completion.specs.Completions.{completion_of}
use Rattle.engine.specs.Engine.{mounted, call, completion, Step, step}

-- ---- what the cases stand on

-- the mounts: the paper's; the same aggregated; with zone 4 full, for 02; and with block 512, with zone 4 read-only, and opened by hand within two
-- limits, for small runs (`Runs.antt`)
pub data Setting : Type 0 where
  paper : Setting
  aggregated : Setting
  block512 : Setting
  zone4_read_only : Setting
  zone4_full : Setting
  by_hand : (open_limit active_limit : ℕ) → Setting

abbrev pub block_in : Setting → ℕ
block_in paper = 4096
block_in aggregated = 4096
block_in block512 = 512
block_in zone4_read_only = 4096
block_in zone4_full = 4096
block_in (by_hand open_limit active_limit) = 4096

abbrev pub aggregates : Setting → Bool
aggregates paper = false
aggregates aggregated = true
aggregates block512 = false
aggregates zone4_read_only = false
aggregates zone4_full = false
aggregates (by_hand open_limit active_limit) = false

-- 02: "the option `explicit-open`, with two limits given at mount (0 means none)"
abbrev pub explicit_in : Setting → Bool
explicit_in paper = false
explicit_in aggregated = false
explicit_in block512 = false
explicit_in zone4_read_only = false
explicit_in zone4_full = false
explicit_in (by_hand open_limit active_limit) = true

abbrev pub open_limit_in : Setting → ℕ
open_limit_in paper = 0
open_limit_in aggregated = 0
open_limit_in block512 = 0
open_limit_in zone4_read_only = 0
open_limit_in zone4_full = 0
open_limit_in (by_hand open_limit active_limit) = open_limit

abbrev pub active_limit_in : Setting → ℕ
active_limit_in paper = 0
active_limit_in aggregated = 0
active_limit_in block512 = 0
active_limit_in zone4_read_only = 0
active_limit_in zone4_full = 0
active_limit_in (by_hand open_limit active_limit) = active_limit

-- the zone of a number: its type, its condition, its capacity and its pointer
abbrev pub zone : ℕ → ℕ → ℕ → ℕ → ℕ → Zone
zone number kind condition capacity pointer =
    record { start = number * 524288; length = 524288; pointer = pointer; kind = kind; condition = condition; capacity = capacity }

-- zone 4: empty, read-only, or full, "a condition 14 with pointer 0"
abbrev pub last_zone : Setting → Zone
last_zone paper = zone 4 2 1 393216 2097152
last_zone aggregated = zone 4 2 1 393216 2097152
last_zone block512 = zone 4 2 1 393216 2097152
last_zone zone4_read_only = zone 4 2 13 393216 2097152
last_zone zone4_full = zone 4 2 14 393216 0
last_zone (by_hand open_limit active_limit) = zone 4 2 1 393216 2097152

unfoldable pub report : Setting → List ℕ
report x =
    encode_report
    (zone 0 1 0 524288 0
    ∷ zone 1 1 0 524288 0
    ∷ zone 2 1 0 524288 0
    ∷ zone 3 2 2 393216 1572872
    ∷ last_zone x
    ∷ [])

-- the last four bytes of the uuid, chosen such that the checksum's register is 0 where the zeros begin: so is the checksum then, and
-- 4,096 bytes of it are soon computed
abbrev pub uuid_end : Bool → List ℕ
uuid_end false = 10 ∷ 75 ∷ 120 ∷ 231 ∷ []
uuid_end true = 75 ∷ 77 ∷ 9 ∷ 60 ∷ []

-- all sixteen
abbrev pub uuid : Bool → List ℕ
uuid aggregate = 1 ∷ 2 ∷ 3 ∷ 4 ∷ 5 ∷ 6 ∷ 7 ∷ 8 ∷ 9 ∷ 10 ∷ 11 ∷ 12 ∷ uuid_end aggregate

-- a super block with feature bit 0 clear or set, without a label, uid, gid or perm
unfoldable pub superblock : Bool → List ℕ
superblock aggregate = encode_super 0 (replicate 64 0) (uuid aggregate) (flag_code aggregate) 0 0 0

-- two rows of either kind are lent, with some words in them
abbrev pub lent : List ℕ
lent = replicate (2 * row_width) 7

-- the text of an option
abbrev pub option_text : ErrorPolicy → List ℕ
option_text RemountRo = ascii "errors=remount-ro"
option_text ZoneRo = ascii "errors=zone-ro"
option_text ZoneOffline = ascii "errors=zone-offline"
option_text Repair = ascii "errors=repair"

-- with `explicit-open`, or without
abbrev pub options_text : Bool → ErrorPolicy → List ℕ
options_text false p = option_text p
options_text true p = option_text p ++ ascii ",explicit-open"

-- the mount of a setting, under an option
abbrev pub mount_under : Setting → ErrorPolicy → Mounting
mount_under x p =
    mount_outcome (block_in x) (superblock (aggregates x)) (options_text (explicit_in x) p) (report x) (open_limit_in x) (active_limit_in x) lent lent

-- ---- what is asked of them

abbrev pub numbered : Answer → List ℕ
numbered a = answer_number a ∷ answer_values a

-- the mount's answer, and the sizes of the rows of a table
abbrev pub mounted_files : Mounting → List ℕ
mounted_files o = mount_number o.answer ∷ mount_values o.answer

abbrev pub size_in : List ℕ → ℕ → ℕ
size_in table row = word_at table row 2

abbrev pub access_in : List ℕ → ℕ → ℕ
access_in table row = word_at table row 4

-- a call on a seq file: number and values of its answer
abbrev pub call_on : Mounting → ℕ → Call → List ℕ
call_on o n x = numbered (step (mounted o) (call (kind_code Sequential) n x)).reply

-- "write 8192 at 4096 fails" with this record
abbrev pub failed_by : Mounting → Zone → Step
failed_by o r = step (step (mounted o) (call (kind_code Sequential) 0 (Call.Write 4096 8192))).state (completion (kind_code Sequential) 0 (completion_of true (encode_zone r)))

-- number and values of the answer, and then the row's size and access (0 none, 1 read, 2 write)
abbrev pub failed_write : Mounting → Zone → List ℕ
failed_write o r = numbered (failed_by o r).reply ++ (size_in (failed_by o r).state.seq 0 ∷ access_in (failed_by o r).state.seq 0 ∷ [])

-- ---- the table

-- a write's command is kind 1 at the byte address 1572864 × 512 + 4096, a read's kind 0 at 1572864 × 512
unfoldable pub cases_of : Mounting → Mounting → Mounting → List Case
cases_of plain joined filled =
    -- "cnv has 2 files of 268435456; aggregated, 1 of 536870912. seq/0 is 4096, seq/1 is 0."
    is (mounted_files plain) (0 ∷ 2 ∷ 2 ∷ [])
    ∷ is (size_in plain.cnv 0 ∷ size_in plain.cnv 1 ∷ []) (268435456 ∷ 268435456 ∷ [])
    ∷ is (mounted_files joined) (0 ∷ 1 ∷ 2 ∷ [])
    ∷ is (size_in joined.cnv 0 ∷ []) (536870912 ∷ [])
    ∷ is (size_in plain.seq 0 ∷ []) (4096 ∷ [])
    ∷ is (size_in plain.seq 1 ∷ []) (0 ∷ [])
    -- "write seq/0 at 4096, 201322496 bytes: commanded; 201326592 bytes: 5"
    ∷ is (call_on plain 0 (Call.Write 4096 201322496)) (0 ∷ 1 ∷ 805310464 ∷ 201322496 ∷ [])
    ∷ is (call_on plain 0 (Call.Write 4096 201326592)) (5 ∷ [])
    -- "truncate seq/0 to 4096: 4. truncate seq/1 to 0: answered at once."
    ∷ is (call_on plain 0 (Call.Truncate 4096)) (4 ∷ [])
    ∷ is (call_on plain 1 (Call.Truncate 0)) (0 ∷ 0 ∷ [])
    -- "read seq/0, 0, 10000: commands 4096 bytes"
    ∷ is (call_on plain 0 (Call.Read 0 10000)) (0 ∷ 0 ∷ 805306368 ∷ 4096 ∷ [])
    -- "write 8192 at 4096 fails, pointer 1572880: 7, size 8192. Same with condition 13: size 4096, access read."
    ∷ is (failed_write plain (zone 3 2 2 393216 1572880)) (7 ∷ 8192 ∷ 8192 ∷ 2 ∷ [])
    ∷ is (failed_write plain (zone 3 2 13 393216 1572880)) (7 ∷ 4096 ∷ 4096 ∷ 1 ∷ [])
    -- 02: "A condition 14 with pointer 0 joins the starred cases.", at mount, where seq/1 is 201326592, and in the record of that write
    ∷ is (mounted_files filled) (0 ∷ 2 ∷ 2 ∷ [])
    ∷ is (size_in filled.seq 1 ∷ []) (201326592 ∷ [])
    ∷ is (failed_write plain (zone 3 2 14 393216 0)) (7 ∷ 201326592 ∷ 201326592 ∷ 2 ∷ [])
    ∷ []

abbrev pub cases : List Case
cases = cases_of (mount_under paper Repair) (mount_under aggregated Repair) (mount_under zone4_full Repair)

-- THE CLAIM: each case gives what the paper says.
unfoldable pub Starred : Type 0
Starred = AsStated cases
