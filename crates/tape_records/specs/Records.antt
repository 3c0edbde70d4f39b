-- The records of a tape: "Each record follows a two-byte mark".
use Rattle.std.specs.Prelude.{ℕ, ◌+◌, ◌-◌, ◌*◌, List, Bool, true, false, cond, ◌&&◌, length, get_or, take, drop, leb, eqb, Option, Some, None}
use Prim.Native.Char.{code}
use Rattle.wire.specs.Le.{le}
use Rattle.superblock.specs.SuperBlock.{super_length}
use Rattle.zones.specs.Zone.{zone_bytes}
use Rattle.report.specs.Report.{header_bytes, zone_count}
use Rattle.types.specs.declared.Call.{Call}
use Rattle.types.specs.declared.Call.TheVariants as call
use Rattle.tape_records.specs.declared.Letters.{Letters}
use Rattle.tape_records.specs.declared.Mark.{Mark}
use Rattle.tape_records.specs.declared.Mark.TheVariants as mark
use Rattle.tape_records.specs.declared.Record.{Record}
use Rattle.tape_records.specs.declared.Record.TheVariants.{OnFile, End}

-- n bytes stand at a place; else a record there is cut
abbrev pub holds : ℕ → List ℕ → ℕ → Bool
holds n b at = leb (at + n) (length b)

-- ---- marks

-- "a two-byte mark"
abbrev pub mark_bytes : ℕ
mark_bytes = 2

abbrev pub pair : ℕ → ℕ → Letters
pair x y = record { first = x; second = y }

-- "`RD WR TR FL` .., `OK`, `NO`", 02's "`OP` and `CL`", and "`??`" for what is none of them
abbrev pub letters_of : Mark → Letters
letters_of mark.Read = pair (code "R") (code "D")
letters_of mark.Write = pair (code "W") (code "R")
letters_of mark.Truncate = pair (code "T") (code "R")
letters_of mark.Flush = pair (code "F") (code "L")
letters_of mark.Open = pair (code "O") (code "P")
letters_of mark.Close = pair (code "C") (code "L")
letters_of mark.Good = pair (code "O") (code "K")
letters_of mark.Failed = pair (code "N") (code "O")
letters_of mark.Unknown = pair (code "?") (code "?")

abbrev pub same_letters : Letters → Letters → Bool
same_letters l m = eqb l.first m.first && eqb l.second m.second

-- one mark: itself where these are its letters, else what the others find
unfoldable pub pick : Mark → Letters → Mark → Mark
pick m l rest = cond (same_letters l (letters_of m)) m rest

unfoldable pub mark_of : Letters → Mark
mark_of l =
    pick mark.Read l
    (pick mark.Write l
    (pick mark.Truncate l
    (pick mark.Flush l
    (pick mark.Open l
    (pick mark.Close l
    (pick mark.Good l
    (pick mark.Failed l mark.Unknown)))))))

-- the two bytes at a place
abbrev pub letters_at : List ℕ → ℕ → Letters
letters_at b at = pair (get_or b at 0) (get_or b (at + 1) 0)

abbrev pub mark_at : List ℕ → ℕ → Mark
mark_at b at = cond (holds mark_bytes b at) (mark_of (letters_at b at)) mark.Unknown

-- ---- the records from `MO` on

-- the file that a record names, after its mark: "kind byte 0 cnv or 1 seq, u32 number". Calls and completions name theirs alike.
-- 02: "the tape's OK and NO carry kind and number before the rest"
abbrev pub kind_at : List ℕ → ℕ → ℕ
kind_at b at = get_or b (at + 2) 0

abbrev pub number_at : List ℕ → ℕ → ℕ
number_at b at = le 4 b (at + 3)

-- the mark and the file: where the rest of a record starts
abbrev pub named_bytes : ℕ
named_bytes = mark_bytes + 5

-- a call's rest: "u64 offset, u64 length"
abbrev pub call_bytes : ℕ
call_bytes = named_bytes + 16

abbrev pub on_file_at : List ℕ → ℕ → Call → Option Record
on_file_at b at x = Some (OnFile (kind_at b at) (number_at b at) x)

abbrev pub offset_at : List ℕ → ℕ → ℕ
offset_at b at = le 8 b (at + 7)

abbrev pub length_at : List ℕ → ℕ → ℕ
length_at b at = le 8 b (at + 15)

-- "`NO` with 64 bytes"
abbrev pub failed_bytes : ℕ
failed_bytes = named_bytes + zone_bytes

-- the end of a command, that it was done or that it failed: its mark, and how long its record is
abbrev pub end_mark : Bool → Mark
end_mark done = cond done mark.Good mark.Failed

abbrev pub end_bytes : Bool → ℕ
end_bytes done = cond done named_bytes failed_bytes

abbrev pub end_at : List ℕ → ℕ → Bool → Option Record
end_at b at done = Some (End (kind_at b at) (number_at b at) done)

-- its rest: nothing, or the zone's record
abbrev pub end_record : Bool → List ℕ → ℕ → List ℕ
end_record done b at = take (end_bytes done - named_bytes) (drop (at + named_bytes) b)

-- how long the record of a mark is. 02: "`OP` and `CL` .. look like FL"
abbrev pub record_bytes : Mark → ℕ
record_bytes mark.Read = call_bytes
record_bytes mark.Write = call_bytes
record_bytes mark.Truncate = call_bytes
record_bytes mark.Flush = call_bytes
record_bytes mark.Open = call_bytes
record_bytes mark.Close = call_bytes
record_bytes mark.Good = end_bytes true
record_bytes mark.Failed = end_bytes false
record_bytes mark.Unknown = mark_bytes

-- and what it says; "TR's size is in length; unused fields ignored"
abbrev pub record_of : Mark → List ℕ → ℕ → Option Record
record_of mark.Read b at = on_file_at b at (call.Read (offset_at b at) (length_at b at))
record_of mark.Write b at = on_file_at b at (call.Write (offset_at b at) (length_at b at))
record_of mark.Truncate b at = on_file_at b at (call.Truncate (length_at b at))
record_of mark.Flush b at = on_file_at b at call.Flush
record_of mark.Open b at = on_file_at b at call.Open
record_of mark.Close b at = on_file_at b at call.Close
record_of mark.Good b at = end_at b at true
record_of mark.Failed b at = end_at b at false
record_of mark.Unknown b at = None

abbrev pub marked_at : Mark → List ℕ → ℕ → Option Record
marked_at m b at = cond (holds (record_bytes m) b at) (record_of m b at) None

-- the record at a place: "Unknown, misplaced or cut record" is broken
unfoldable pub record_at : List ℕ → ℕ → Option Record
record_at b at = marked_at (mark_at b at) b at

-- ---- before: "`BK` u16; `SB` 4,096 bytes; `ZR` a report ..; `MO` length byte and options; these four once, in order"

-- "(nothing more for a count of 0 or above 1,023)": the tape's own limit of zones, and of files of a kind, as zone 0 is none
abbrev pub tape_zones : ℕ
tape_zones = 1023

abbrev pub tape_files : ℕ
tape_files = 1022

-- `SB` after `BK` and its u16, `ZR` after `SB` and its bytes
abbrev pub super_place : ℕ
super_place = mark_bytes + 2

abbrev pub report_place : ℕ
report_place = super_place + (mark_bytes + super_length)

-- where the report itself starts, and what it says of its count
abbrev pub report_start : ℕ
report_start = report_place + mark_bytes

abbrev pub count_of : List ℕ → ℕ
count_of b = zone_count (drop report_start b)

-- "16 bytes and then 64 × its count (nothing more for a count of 0 or above 1,023)"
abbrev pub report_length : ℕ → ℕ
report_length count = cond (leb count tape_zones) (header_bytes + zone_bytes * count) header_bytes

abbrev pub mount_place : List ℕ → ℕ
mount_place b = report_start + report_length (count_of b)

-- `MO`'s mark and "length byte", and where its options start
abbrev pub mount_bytes : ℕ
mount_bytes = mark_bytes + 1

abbrev pub options_start : List ℕ → ℕ
options_start b = mount_place b + mount_bytes

abbrev pub options_length : List ℕ → ℕ
options_length b = get_or b (mount_place b + mark_bytes) 0

-- after them, 02: "MO ends with the limits (u32, open first)"
abbrev pub limits_place : List ℕ → ℕ
limits_place b = options_start b + options_length b

abbrev pub limits_bytes : ℕ
limits_bytes = 8

-- where the records after `MO` start
abbrev pub run_place : List ℕ → ℕ
run_place b = limits_place b + limits_bytes

-- a record of n bytes with these letters stands at a place
abbrev pub stands : Letters → ℕ → List ℕ → ℕ → Bool
stands l n b at = holds n b at && same_letters (letters_at b at) l

-- "`BK`", "`SB`", "`ZR`", "`MO`"
abbrev pub block_letters : Letters
block_letters = pair (code "B") (code "K")

abbrev pub super_letters : Letters
super_letters = pair (code "S") (code "B")

abbrev pub report_letters : Letters
report_letters = pair (code "Z") (code "R")

abbrev pub mount_letters : Letters
mount_letters = pair (code "M") (code "O")

-- the first three stand where they are due, as far as the report's header
abbrev pub starts_well : List ℕ → Bool
starts_well b =
    stands block_letters super_place b 0
    && stands super_letters (mark_bytes + super_length) b super_place
    && stands report_letters (mark_bytes + header_bytes) b report_place

abbrev pub mount_stands : List ℕ → Bool
mount_stands b = stands mount_letters mount_bytes b (mount_place b) && leb (run_place b) (length b)

-- the four stand where they are due, and none of them is cut
unfoldable pub opens : List ℕ → Bool
opens b = starts_well b && mount_stands b

-- what they say
abbrev pub block_of : List ℕ → ℕ
block_of b = le 2 b mark_bytes

abbrev pub super_bytes : List ℕ → List ℕ
super_bytes b = take super_length (drop (super_place + mark_bytes) b)

abbrev pub report_bytes : List ℕ → List ℕ
report_bytes b = take (report_length (count_of b)) (drop report_start b)

abbrev pub option_bytes : List ℕ → List ℕ
option_bytes b = take (options_length b) (drop (options_start b) b)

abbrev pub open_limit_of : List ℕ → ℕ
open_limit_of b = le 4 b (limits_place b)

abbrev pub active_limit_of : List ℕ → ℕ
active_limit_of b = le 4 b (limits_place b + 4)
