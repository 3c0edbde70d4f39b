-- Small cases of the first fault in byte order, and of the rows of the files that are finished before it: a line or more to each sentence of 02, K4, and
-- of what was decided of it, computed. The block is eight sectors, and a zone is as long, 4,096 bytes, or twice that.
use Rattle.std.specs.Prelude.{Bool, true, false, List, [], ◌∷◌, ◌++◌, ℕ, length, take}
use Rattle.types.specs.Numbers.{verdict_number, verdict_values}
use Rattle.types.specs.Stated.{Case, is, AsStated}
use Rattle.types.specs.Answers.{Verdict}
use Rattle.types.specs.declared.Row.{Row}
use Rattle.wire.specs.Le.{little}
use Rattle.zones.specs.declared.Zone.{Zone}
use Rattle.report.specs.Report.{encode_report}
use Rattle.first_fault.specs.FirstFault.{fault_from, passed_from, finished_runs, first_fault, end_fault, finished_cnv, finished_seq}

-- a zone of this type and condition, its pointer at its start
abbrev pub zone_with : ℕ → ℕ → ℕ → ℕ → Zone
zone_with kind condition start length =
    record { start = start; length = length; pointer = start; kind = kind; condition = condition; capacity = length }

abbrev pub cnv : ℕ → Zone
cnv start = zone_with 1 0 start 8

abbrev pub seq : ℕ → Zone
seq start = zone_with 2 1 start 8

-- a conventional and a sequential zone of two blocks
abbrev pub long_cnv : ℕ → Zone
long_cnv start = zone_with 1 0 start 16

abbrev pub long_seq : ℕ → Zone
long_seq start = zone_with 2 1 start 16

-- of no type (reason 5), and sequential with a condition that none has (6)
abbrev pub untyped : ℕ → Zone
untyped start = zone_with 4 1 start 8

abbrev pub unsound : ℕ → Zone
unsound start = zone_with 2 5 start 8

-- ---- what is asked of them

-- 0, or the refusal with its values
abbrev pub told : Verdict → List ℕ
told v = verdict_number v ∷ verdict_values v

-- of the zones that there are, with feature bit 0 or without, and rows for so many files: how many come before the first fault, and which it is
abbrev pub fault_seen : Bool → ℕ → ℕ → List Zone → List ℕ
fault_seen aggregate cnvs seqs zs = length (passed_from 8 aggregate cnvs seqs [] zs) ∷ told (fault_from 8 aggregate cnvs seqs [] zs)

-- start and capacity of each row
abbrev pub rows_seen : List Row → List ℕ
rows_seen [] = []
rows_seen (r ∷ rs) = r.start ∷ r.capacity ∷ rows_seen rs

-- of a report of so many zones, of which these are there: the rows of the cnv files that are finished
abbrev pub runs_seen : ℕ → Bool → ℕ → ℕ → List Zone → List ℕ
runs_seen count aggregate cnvs seqs zs = rows_seen (finished_runs 8 aggregate cnvs seqs count (passed_from 8 aggregate cnvs seqs [] zs) zs)

-- of bytes that have arrived, with feature bit 0 and two rows of each kind: the first fault, and if they are all
abbrev pub bytes_told : List ℕ → List ℕ
bytes_told b = told (first_fault 8 true 2 2 b) ++ told (end_fault 8 true 2 2 b)

-- .. and the rows of finished files, cnv first
abbrev pub cnv_seen : List ℕ → List ℕ
cnv_seen b = rows_seen (finished_cnv 8 true 2 2 b)

abbrev pub seq_seen : List ℕ → List ℕ
seq_seen b = rows_seen (finished_seq 8 true 2 2 b)

-- a header
abbrev pub header : ℕ → ℕ → ℕ → List ℕ
header sector count flags = little 8 sector ++ (little 4 count ++ little 4 flags)

-- ---- the tables

unfoldable pub fault_cases : List Case
fault_cases =
    -- 29 with zone and reason at the zone's last byte
    is (fault_seen true 9 9 (cnv 0 ∷ seq 8 ∷ long_seq 16 ∷ cnv 32 ∷ [])) (4 ∷ 0 ∷ [])
    ∷ is (fault_seen true 9 9 (cnv 0 ∷ seq 8 ∷ seq 24 ∷ [])) (2 ∷ 29 ∷ 2 ∷ 1 ∷ [])
    ∷ is (fault_seen true 9 9 (cnv 0 ∷ untyped 8 ∷ [])) (1 ∷ 29 ∷ 1 ∷ 5 ∷ [])
    ∷ is (fault_seen true 9 9 (unsound 0 ∷ [])) (0 ∷ 29 ∷ 0 ∷ 6 ∷ [])
    -- Faults come in byte order: of two bad zones the first; a bad zone before a file that has no row, and after one
    ∷ is (fault_seen true 9 9 (cnv 0 ∷ untyped 8 ∷ unsound 16 ∷ [])) (1 ∷ 29 ∷ 1 ∷ 5 ∷ [])
    ∷ is (fault_seen true 9 0 (cnv 0 ∷ untyped 8 ∷ seq 16 ∷ [])) (1 ∷ 29 ∷ 1 ∷ 5 ∷ [])
    ∷ is (fault_seen true 9 0 (cnv 0 ∷ seq 8 ∷ untyped 16 ∷ [])) (1 ∷ 30 ∷ [])
    -- 30 at the last byte of the first zone, itself good, of the first file that has no row: a seq file, a cnv file, a run's first zone
    ∷ is (fault_seen true 9 2 (cnv 0 ∷ seq 8 ∷ seq 16 ∷ seq 24 ∷ [])) (3 ∷ 30 ∷ [])
    ∷ is (fault_seen false 1 9 (cnv 0 ∷ cnv 8 ∷ cnv 16 ∷ [])) (2 ∷ 30 ∷ [])
    ∷ is (fault_seen true 1 9 (cnv 0 ∷ cnv 8 ∷ cnv 16 ∷ seq 24 ∷ cnv 32 ∷ cnv 40 ∷ [])) (4 ∷ 30 ∷ [])
    ∷ is (fault_seen true 0 9 (cnv 0 ∷ seq 8 ∷ cnv 16 ∷ cnv 24 ∷ [])) (2 ∷ 30 ∷ [])
    -- "itself good": a bad zone that has no row either is 29
    ∷ is (fault_seen true 9 0 (cnv 0 ∷ unsound 8 ∷ [])) (1 ∷ 29 ∷ 1 ∷ 6 ∷ [])
    -- Zone 0 is no file: it needs no row, of either kind
    ∷ is (fault_seen true 0 0 (cnv 0 ∷ [])) (1 ∷ 0 ∷ [])
    ∷ is (fault_seen false 1 0 (seq 0 ∷ cnv 8 ∷ [])) (2 ∷ 0 ∷ [])
    ∷ []

unfoldable pub run_cases : List Case
run_cases =
    -- A file is finished, and its row stored: .. a conventional one, without feature bit 0, with its zone
    is (runs_seen 9 false 9 9 (cnv 0 ∷ cnv 8 ∷ long_cnv 16 ∷ [])) (8 ∷ 4096 ∷ 16 ∷ 8192 ∷ [])
    -- with it, a run by the count's last zone
    ∷ is (runs_seen 3 true 9 9 (cnv 0 ∷ cnv 8 ∷ long_cnv 16 ∷ [])) (8 ∷ 12288 ∷ [])
    -- .. where more zones are to follow it isn't finished, but the run before it is
    ∷ is (runs_seen 4 true 9 9 (cnv 0 ∷ cnv 8 ∷ long_cnv 16 ∷ [])) []
    ∷ is (runs_seen 9 true 9 9 (cnv 0 ∷ cnv 8 ∷ seq 16 ∷ cnv 24 ∷ [])) (8 ∷ 4096 ∷ [])
    -- or by a good zone of another type
    ∷ is (runs_seen 9 true 9 9 (cnv 0 ∷ cnv 8 ∷ long_cnv 16 ∷ seq 32 ∷ [])) (8 ∷ 12288 ∷ [])
    -- .. "before a 30 there"
    ∷ is (runs_seen 9 true 9 0 (cnv 0 ∷ cnv 8 ∷ long_cnv 16 ∷ seq 32 ∷ [])) (8 ∷ 12288 ∷ [])
    -- a zone that has no row finishes no run of its own
    ∷ is (runs_seen 9 true 1 9 (cnv 0 ∷ cnv 8 ∷ seq 16 ∷ cnv 24 ∷ seq 32 ∷ [])) (8 ∷ 4096 ∷ [])
    ∷ is (runs_seen 2 true 0 9 (cnv 0 ∷ cnv 8 ∷ [])) []
    -- A bad zone finishes nothing., also the count's last
    ∷ is (runs_seen 9 true 9 9 (cnv 0 ∷ cnv 8 ∷ unsound 16 ∷ [])) []
    ∷ is (runs_seen 3 true 9 9 (cnv 0 ∷ cnv 8 ∷ unsound 16 ∷ [])) []
    ∷ is (runs_seen 9 true 9 9 (cnv 0 ∷ cnv 8 ∷ seq 24 ∷ [])) []
    ∷ is (runs_seen 9 true 9 9 (cnv 0 ∷ cnv 8 ∷ seq 16 ∷ cnv 24 ∷ unsound 32 ∷ [])) (8 ∷ 4096 ∷ [])
    -- .. nor takes from what was finished
    ∷ is (runs_seen 9 false 9 9 (cnv 0 ∷ cnv 8 ∷ unsound 16 ∷ [])) (8 ∷ 4096 ∷ [])
    -- Zone 0 is no file and belongs to no run.
    ∷ is (runs_seen 2 true 9 9 (cnv 0 ∷ cnv 8 ∷ [])) (8 ∷ 4096 ∷ [])
    ∷ is (runs_seen 2 false 9 9 (cnv 0 ∷ cnv 8 ∷ [])) (8 ∷ 4096 ∷ [])
    ∷ is (runs_seen 9 true 9 9 (cnv 0 ∷ seq 8 ∷ [])) []
    ∷ is (runs_seen 1 true 9 9 (cnv 0 ∷ [])) []
    ∷ []

-- 28: a bad header (sector, count, flags) at the header's last byte; a missing byte at the end; an extra byte (after the count's last zone) when it arrives
unfoldable pub header_cases : List Case
header_cases =
    -- a part of a header, good or bad
    is (bytes_told []) (0 ∷ 28 ∷ [])
    ∷ is (bytes_told (take 15 (header 0 1 1))) (0 ∷ 28 ∷ [])
    ∷ is (bytes_told (take 15 (header 1 1 1))) (0 ∷ 28 ∷ [])
    -- sector, count (none, and the most), flags
    ∷ is (bytes_told (header 0 1 1)) (0 ∷ 28 ∷ [])
    ∷ is (bytes_told (header 1 1 1)) (28 ∷ 28 ∷ [])
    ∷ is (bytes_told (header 0 0 1)) (28 ∷ 28 ∷ [])
    ∷ is (bytes_told (header 0 65536 0)) (0 ∷ 28 ∷ [])
    ∷ is (bytes_told (header 0 65537 0)) (28 ∷ 28 ∷ [])
    ∷ is (bytes_told (header 0 1 2)) (28 ∷ 28 ∷ [])
    ∷ []

unfoldable pub length_cases : List Case
length_cases =
    -- all there; a byte missing; one too many
    is (bytes_told (encode_report (cnv 0 ∷ []))) (0 ∷ 0 ∷ [])
    ∷ is (bytes_told (take 79 (encode_report (cnv 0 ∷ [])))) (0 ∷ 28 ∷ [])
    ∷ is (bytes_told (encode_report (cnv 0 ∷ []) ++ (0 ∷ []))) (28 ∷ 28 ∷ [])
    ∷ []

unfoldable pub last_byte_cases : List Case
last_byte_cases =
    -- 29 .. at the zone's last byte, and the same at the end; an extra byte comes later
    is (bytes_told (take 79 (encode_report (untyped 0 ∷ [])))) (0 ∷ 28 ∷ [])
    ∷ is (bytes_told (encode_report (untyped 0 ∷ []))) (29 ∷ 0 ∷ 5 ∷ 29 ∷ 0 ∷ 5 ∷ [])
    ∷ is (bytes_told (encode_report (untyped 0 ∷ []) ++ (0 ∷ []))) (29 ∷ 0 ∷ 5 ∷ 29 ∷ 0 ∷ 5 ∷ [])
    ∷ []

-- the rows of files that are finished by these bytes
unfoldable pub row_cases : List Case
row_cases =
    -- a seq file with its zone: not a byte before its last
    is (seq_seen (encode_report (cnv 0 ∷ seq 8 ∷ []))) (8 ∷ 4096 ∷ [])
    ∷ is (seq_seen (take 143 (encode_report (cnv 0 ∷ seq 8 ∷ [])))) []
    -- After 28, 29 or 30 the rows of files finished before the fault stay filled
    ∷ is (seq_seen (encode_report (cnv 0 ∷ seq 8 ∷ unsound 16 ∷ []))) (8 ∷ 4096 ∷ [])
    ∷ is (seq_seen (encode_report (cnv 0 ∷ seq 8 ∷ []) ++ (0 ∷ []))) (8 ∷ 4096 ∷ [])
    -- Zone 0 is no file
    ∷ is (seq_seen (encode_report (seq 0 ∷ long_seq 8 ∷ []))) (8 ∷ 8192 ∷ [])
    -- a run, by the count's last zone
    ∷ is (cnv_seen (encode_report (cnv 0 ∷ long_cnv 8 ∷ []))) (8 ∷ 8192 ∷ [])
    -- .. and one that a cut zone would finish isn't yet
    ∷ is (cnv_seen (take 207 (encode_report (cnv 0 ∷ cnv 8 ∷ seq 16 ∷ [])))) []
    ∷ is (cnv_seen (encode_report (cnv 0 ∷ cnv 8 ∷ seq 16 ∷ []))) (8 ∷ 4096 ∷ [])
    -- a bad header: none
    ∷ is (seq_seen (header 1 1 1)) []
    ∷ []

-- THE CLAIM: each case gives what is stated.
pub record FirstFaultCases : Type 0 where
  pub faults : AsStated fault_cases
  pub runs : AsStated run_cases
  pub headers : AsStated header_cases
  pub lengths : AsStated length_cases
  pub last_bytes : AsStated last_byte_cases
  pub rows : AsStated row_cases
