-- What functions tell those that call them. No record is defined here.
use Rattle.std.specs.Prelude.{ℕ, ◌+◌, ◌*◌, ◌≤◌, List, length, Option, Some, None}
use Rattle.zones.specs.Zone.{zone_bytes}
use Rattle.report.specs.Report.{header_bytes}
use Rattle.tape_records.specs.declared.Record.{Record}
use Rattle.tape_records.specs.declared.Record.TheVariants.{OnFile, End}
use Rattle.tape_records.specs.Records.{call_bytes, end_bytes, tape_zones, report_start, mount_place, mount_bytes, run_place}

-- the bytes of a record stand at its place
abbrev pub Stands : Option Record → List ℕ → ℕ → Type 0
Stands (Some (OnFile kind number x)) b at = at + call_bytes ≤ length b
Stands (Some (End kind number done)) b at = at + end_bytes done ≤ length b
Stands None b at = Unit

-- no report of a tape is longer
abbrev pub longest_report : ℕ
longest_report = header_bytes + zone_bytes * tape_zones

-- and no options end later
abbrev pub longest_options : ℕ
longest_options = report_start + longest_report + mount_bytes + 255

-- the first four records stand at the start
pub record Opened (b : List ℕ) : Type 0 where
  pub report : report_start + header_bytes ≤ mount_place b
  pub whole : run_place b ≤ length b
