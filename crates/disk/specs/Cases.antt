-- Small cases of the disk's rules, a line or more to each sentence of the paper, computed. The zone of most is sequential, from sector 800,
-- 800 long, with a capacity of 640; the block is 4096 bytes, eight sectors.
use Rattle.std.specs.Prelude.{Bool, true, false, List, [], ◌∷◌, map, ℕ}
use Rattle.types.specs.declared.FileKind.{FileKind}
use Rattle.types.specs.declared.FileKind.TheVariants.{Conventional, Sequential}
use Rattle.types.specs.declared.Condition.{Condition}
use Rattle.types.specs.declared.Condition.TheVariants.{Healthy, ReadOnly, Offline}
use Rattle.types.specs.declared.Command.{Command}
use Rattle.types.specs.declared.CommandKind.{CommandKind}
use Rattle.types.specs.declared.CommandKind.TheVariants.{Read, Write, Reset, Finish, Flush, Open, Close}
use Rattle.types.specs.Blocks.{bytes_of}
use Rattle.types.specs.Codes.{flag_code, condition_code}
use Rattle.types.specs.Stated.{Case, is, AsStated}
use Rattle.disk.specs.Disk.{DiskZone, zone_holding, Harm, none, to_read_only, to_offline, Mishap, struck, Performed, perform, reported}
use Rattle.disk.specs.Shows.{shows_zone}

abbrev pub zone_with : FileKind → ℕ → Condition → DiskZone
zone_with kind pointer condition = record { kind = kind; start = 800; length = 800; capacity = 640; pointer = pointer; condition = condition }

abbrev pub seq_zone : ℕ → Condition → DiskZone
seq_zone pointer condition = zone_with Sequential pointer condition

-- a command from a sector on, of so many bytes
abbrev pub command_at : CommandKind → ℕ → ℕ → Command
command_at kind sector length = record { kind = kind; address = bytes_of sector; length = length }

abbrev pub no_mishap : Mishap
no_mishap = record { blocks = 0; harm = none }

-- ---- what is asked of them

abbrev pub zone_seen : DiskZone → List ℕ
zone_seen z = z.pointer ∷ condition_code z.condition ∷ []

-- whether the command was done, the pointer and the condition
abbrev pub done_seen : Performed → List ℕ
done_seen d = flag_code d.succeeded ∷ zone_seen d.zone

-- the disk does it if it can
abbrev pub tried : Bool → DiskZone → Command → List ℕ
tried quiet z c = done_seen (perform 4096 quiet z c (record { fails = false; lands = 0; mishap = no_mishap }))

-- it fails, once so many blocks have landed, with a mishap
abbrev pub failed_after : ℕ → Mishap → DiskZone → Command → List ℕ
failed_after lands e z c = done_seen (perform 4096 true z c (record { fails = true; lands = lands; mishap = e }))

abbrev pub fallen_from : ℕ → ℕ → List ℕ
fallen_from pointer blocks = zone_seen (struck 4096 (seq_zone pointer Healthy) pointer (record { blocks = blocks; harm = none }))

abbrev pub harmed : Condition → Harm → List ℕ
harmed c harm = zone_seen (struck 4096 (seq_zone 808 c) 808 (record { blocks = 0; harm = harm }))

-- type and condition byte
abbrev pub report_seen : DiskZone → List ℕ
report_seen z = (reported z).kind ∷ (reported z).condition ∷ []

-- whether a record shows the zone: its type, condition and pointer
abbrev pub shown : ℕ → ℕ → ℕ → DiskZone → List ℕ
shown kind condition pointer z =
    flag_code (shows_zone (record { start = 800; length = 800; pointer = pointer; kind = kind; condition = condition; capacity = 640 }) z) ∷ []

-- its start, length and capacity, of a zone that is healthy with its pointer at 808
abbrev pub shown_at : ℕ → ℕ → ℕ → List ℕ
shown_at start length capacity =
    flag_code (shows_zone (record { start = start; length = length; pointer = 808; kind = 2; condition = 2; capacity = capacity }) (seq_zone 808 Healthy)) ∷ []

-- ---- the tables

unfoldable pub command_cases : List Case
command_cases =
    -- "A healthy sequential zone takes a write only at its pointer and moves it by the length, a conventional one anywhere"
    is (tried true (seq_zone 808 Healthy) (command_at Write 808 8192)) (1 ∷ 824 ∷ 0 ∷ [])
    ∷ is (tried true (seq_zone 808 Healthy) (command_at Write 816 8192)) (0 ∷ 808 ∷ 0 ∷ [])
    ∷ is (tried true (zone_with Conventional 0 Healthy) (command_at Write 816 8192)) (1 ∷ 0 ∷ 0 ∷ [])
    -- "reset and finish move it to start and start+capacity"
    ∷ is (tried true (seq_zone 808 Healthy) (command_at Reset 800 0)) (1 ∷ 800 ∷ 0 ∷ [])
    ∷ is (tried true (seq_zone 808 Healthy) (command_at Finish 800 0)) (1 ∷ 1440 ∷ 0 ∷ [])
    -- "Any command may fail; a failing write may first land any whole number of its blocks."
    ∷ is (failed_after 0 no_mishap (seq_zone 808 Healthy) (command_at Write 808 8192)) (0 ∷ 808 ∷ 0 ∷ [])
    ∷ is (failed_after 1 no_mishap (seq_zone 808 Healthy) (command_at Write 808 8192)) (0 ∷ 816 ∷ 0 ∷ [])
    ∷ is (failed_after 3 no_mishap (seq_zone 808 Healthy) (command_at Write 808 8192)) (0 ∷ 824 ∷ 0 ∷ [])
    ∷ is (failed_after 1 no_mishap (seq_zone 808 Healthy) (command_at Write 816 8192)) (0 ∷ 808 ∷ 0 ∷ [])
    ∷ is (failed_after 1 no_mishap (seq_zone 808 Healthy) (command_at Finish 800 0)) (0 ∷ 808 ∷ 0 ∷ [])
    ∷ is (failed_after 1 no_mishap (seq_zone 808 Healthy) (command_at Read 800 4096)) (0 ∷ 808 ∷ 0 ∷ [])
    -- "Mishap (alone or with a failure)"
    ∷ is (failed_after 2 (record { blocks = 1; harm = to_read_only }) (seq_zone 808 Healthy) (command_at Write 808 8192)) (0 ∷ 816 ∷ 1 ∷ [])
    -- .. and only with one
    ∷ is (done_seen (perform 4096 true (seq_zone 808 Healthy) (command_at Write 808 8192) (record { fails = false; lands = 0; mishap = record { blocks = 1; harm = to_read_only } }))) (1 ∷ 824 ∷ 0 ∷ [])
    -- 02: "On the disk open and close move no pointer", wherever it stands
    ∷ is (tried true (seq_zone 808 Healthy) (command_at Open 800 0)) (1 ∷ 808 ∷ 0 ∷ [])
    ∷ is (tried true (seq_zone 800 Healthy) (command_at Open 800 0)) (1 ∷ 800 ∷ 0 ∷ [])
    ∷ is (tried true (seq_zone 808 Healthy) (command_at Close 800 0)) (1 ∷ 808 ∷ 0 ∷ [])
    -- .. nor where they fail, as any command may; a mishap may come with it
    ∷ is (failed_after 1 no_mishap (seq_zone 808 Healthy) (command_at Open 800 0)) (0 ∷ 808 ∷ 0 ∷ [])
    ∷ is (failed_after 1 no_mishap (seq_zone 808 Healthy) (command_at Close 800 0)) (0 ∷ 808 ∷ 0 ∷ [])
    ∷ is (failed_after 0 (record { blocks = 1; harm = none }) (seq_zone 816 Healthy) (command_at Open 800 0)) (0 ∷ 808 ∷ 0 ∷ [])
    ∷ []

-- whether a zone can do a command
unfoldable pub allowed_cases : List Case
allowed_cases =
    -- "Write, reset and finish fail on an unhealthy zone, a read on an offline one."
    is (tried true (seq_zone 808 ReadOnly) (command_at Write 808 8192)) (0 ∷ 808 ∷ 1 ∷ [])
    ∷ is (tried true (seq_zone 808 ReadOnly) (command_at Reset 800 0)) (0 ∷ 808 ∷ 1 ∷ [])
    ∷ is (tried true (seq_zone 808 ReadOnly) (command_at Finish 800 0)) (0 ∷ 808 ∷ 1 ∷ [])
    ∷ is (tried true (seq_zone 808 Offline) (command_at Write 808 8192)) (0 ∷ 808 ∷ 2 ∷ [])
    ∷ is (tried true (seq_zone 808 Offline) (command_at Reset 800 0)) (0 ∷ 808 ∷ 2 ∷ [])
    ∷ is (tried true (seq_zone 808 Offline) (command_at Finish 800 0)) (0 ∷ 808 ∷ 2 ∷ [])
    ∷ is (tried true (seq_zone 808 ReadOnly) (command_at Read 800 4096)) (1 ∷ 808 ∷ 1 ∷ [])
    ∷ is (tried true (seq_zone 808 Offline) (command_at Read 800 4096)) (0 ∷ 808 ∷ 2 ∷ [])
    -- 02: "open and close .. fail on an unhealthy zone", whether the file is quiet or not
    ∷ is (tried true (seq_zone 808 ReadOnly) (command_at Open 800 0)) (0 ∷ 808 ∷ 1 ∷ [])
    ∷ is (tried true (seq_zone 808 Offline) (command_at Open 800 0)) (0 ∷ 808 ∷ 2 ∷ [])
    ∷ is (tried true (seq_zone 808 ReadOnly) (command_at Close 800 0)) (0 ∷ 808 ∷ 1 ∷ [])
    ∷ is (tried true (seq_zone 808 Offline) (command_at Close 800 0)) (0 ∷ 808 ∷ 2 ∷ [])
    ∷ is (tried false (seq_zone 808 Healthy) (command_at Open 800 0)) (1 ∷ 808 ∷ 0 ∷ [])
    ∷ is (tried false (seq_zone 808 Healthy) (command_at Close 800 0)) (1 ∷ 808 ∷ 0 ∷ [])
    -- "Flush concerns its own zone and fails if the file isn't quiet."
    ∷ is (tried true (seq_zone 808 Healthy) (command_at Flush 800 0)) (1 ∷ 808 ∷ 0 ∷ [])
    ∷ is (tried false (seq_zone 808 Healthy) (command_at Flush 800 0)) (0 ∷ 808 ∷ 0 ∷ [])
    -- (of a conventional file it may succeed in any case)
    ∷ is (tried false (zone_with Conventional 0 Healthy) (command_at Flush 800 0)) (1 ∷ 0 ∷ 0 ∷ [])
    ∷ []

unfoldable pub mishap_cases : List Case
mishap_cases =
    -- "the pointer falls back by whole blocks, at most to start"
    is (fallen_from 824 1) (816 ∷ 0 ∷ [])
    ∷ is (fallen_from 824 2) (808 ∷ 0 ∷ [])
    ∷ is (fallen_from 824 9) (800 ∷ 0 ∷ [])
    -- 02: "a full zone's pointer stands at start+capacity, and a mishap moves it from there"
    ∷ is (fallen_from 1440 1) (1432 ∷ 0 ∷ [])
    -- "or the condition worsens; nothing betters it."
    ∷ is (harmed Healthy none) (808 ∷ 0 ∷ [])
    ∷ is (harmed Healthy to_read_only) (808 ∷ 1 ∷ [])
    ∷ is (harmed Healthy to_offline) (808 ∷ 2 ∷ [])
    ∷ is (harmed ReadOnly none) (808 ∷ 1 ∷ [])
    ∷ is (harmed ReadOnly to_read_only) (808 ∷ 1 ∷ [])
    ∷ is (harmed ReadOnly to_offline) (808 ∷ 2 ∷ [])
    ∷ is (harmed Offline none) (808 ∷ 2 ∷ [])
    ∷ is (harmed Offline to_read_only) (808 ∷ 2 ∷ [])
    ∷ is (harmed Offline to_offline) (808 ∷ 2 ∷ [])
    ∷ []

unfoldable pub report_cases : List Case
report_cases =
    -- "A healthy sequential zone's condition follows: 1 at start, 14 at the end, else 2; a healthy conventional one's stays 0."
    is (report_seen (seq_zone 800 Healthy)) (2 ∷ 1 ∷ [])
    ∷ is (report_seen (seq_zone 1440 Healthy)) (2 ∷ 14 ∷ [])
    ∷ is (report_seen (seq_zone 808 Healthy)) (2 ∷ 2 ∷ [])
    ∷ is (report_seen (zone_with Conventional 0 Healthy)) (1 ∷ 0 ∷ [])
    ∷ is (report_seen (seq_zone 808 ReadOnly)) (2 ∷ 13 ∷ [])
    ∷ is (report_seen (seq_zone 808 Offline)) (2 ∷ 15 ∷ [])
    -- "A failed command reports the zone at its address truthfully afterwards": type 2 or 3, any condition byte that fits, the pointer
    -- where it means something; and nothing else
    ∷ is (shown 2 2 808 (seq_zone 808 Healthy)) (1 ∷ [])
    ∷ is (shown 3 4 808 (seq_zone 808 Healthy)) (1 ∷ [])
    ∷ is (shown 3 14 1440 (seq_zone 1440 Healthy)) (1 ∷ [])
    ∷ is (shown 2 4 1440 (seq_zone 1440 Healthy)) (1 ∷ [])
    ∷ is (shown 2 13 5 (seq_zone 808 ReadOnly)) (1 ∷ [])
    ∷ is (shown 1 0 5 (zone_with Conventional 0 Healthy)) (1 ∷ [])
    ∷ is (shown 2 0 0 (zone_with Conventional 0 Healthy)) (0 ∷ [])
    ∷ is (shown 1 2 0 (zone_with Conventional 0 Healthy)) (0 ∷ [])
    ∷ is (shown 1 0 808 (seq_zone 808 Healthy)) (0 ∷ [])
    ∷ is (shown 2 0 808 (seq_zone 808 Healthy)) (0 ∷ [])
    ∷ is (shown 2 5 808 (seq_zone 808 Healthy)) (0 ∷ [])
    ∷ is (shown_at 800 800 640) (1 ∷ [])
    ∷ is (shown_at 792 800 640) (0 ∷ [])
    ∷ is (shown_at 800 808 640) (0 ∷ [])
    ∷ is (shown_at 800 800 632) (0 ∷ [])
    ∷ is (shown 2 2 816 (seq_zone 808 Healthy)) (0 ∷ [])
    ∷ is (shown 2 14 808 (seq_zone 808 Healthy)) (0 ∷ [])
    ∷ is (shown 2 13 808 (seq_zone 808 Healthy)) (0 ∷ [])
    ∷ is (shown 2 13 808 (seq_zone 808 Offline)) (0 ∷ [])
    ∷ is (shown 2 2 808 (seq_zone 808 ReadOnly)) (0 ∷ [])
    -- 02: "but the zone may report any pointer while full"; it is full at start+capacity and nowhere else, and reports it by condition 14
    ∷ is (shown 2 14 0 (seq_zone 1440 Healthy)) (1 ∷ [])
    ∷ is (shown 3 14 18446744073709551615 (seq_zone 1440 Healthy)) (1 ∷ [])
    ∷ is (shown 2 14 1440 (seq_zone 1432 Healthy)) (0 ∷ [])
    ∷ is (shown 2 4 0 (seq_zone 1440 Healthy)) (0 ∷ [])
    ∷ is (shown 2 13 0 (seq_zone 1440 Healthy)) (0 ∷ [])
    -- 02: an open or a close "may leave condition 3 or 4", wherever the pointer stands
    ∷ is (shown 2 3 808 (seq_zone 808 Healthy)) (1 ∷ [])
    ∷ is (shown 2 4 808 (seq_zone 808 Healthy)) (1 ∷ [])
    ∷ is (shown 2 3 800 (seq_zone 800 Healthy)) (1 ∷ [])
    ∷ is (shown 2 4 800 (seq_zone 800 Healthy)) (1 ∷ [])
    ∷ is (shown 2 3 816 (seq_zone 808 Healthy)) (0 ∷ [])
    ∷ is (shown 2 3 808 (seq_zone 808 ReadOnly)) (0 ∷ [])
    -- "the zone at its address"
    ∷ is (map (λ (n : ℕ). zone_holding (record { kind = Conventional; start = 0; length = 800; capacity = 800; pointer = 0; condition = Healthy } ∷ seq_zone 800 Healthy ∷ []) (bytes_of n)) (0 ∷ 799 ∷ 800 ∷ 1439 ∷ []))
    (0 ∷ 0 ∷ 1 ∷ 1 ∷ [])
    ∷ []

-- THE CLAIM: each case gives what is stated.
pub record DiskCases : Type 0 where
  pub commands : AsStated command_cases
  pub allowed : AsStated allowed_cases
  pub mishaps : AsStated mishap_cases
  pub reports : AsStated report_cases
