-- The small cases of the first fault and of finished files, computed.
-- Assumes nothing.
use mathlib.Core.Path.{refl}
use Rattle.types.specs.Verdicts.{refuse, and_then}
use Rattle.wire.specs.Le.{le, little}
use Rattle.zones.specs.Zone.{encode_zone, good_record, good_zone}
use Rattle.zones.specs.Faults as faults
use Rattle.zones.specs.Faults.{fault_unless, zone_fault}
use Rattle.files.specs.Files.{seq_rows, runs, capacity_of, all_healthy, cnv_rows}
use Rattle.report.specs.Report.{zones_from, encode_zones, encode_report}
use Rattle.report.specs.Facts.{end_of}
use Rattle.first_fault.specs.FirstFault.{whole_zones, fault_after, fault_from, passed_from, first_fault, end_fault, passed_zones, finished_runs, finished_cnv, finished_seq}
use Rattle.first_fault.specs.Cases.{fault_cases, run_cases, header_cases, length_cases, last_byte_cases, row_cases, FirstFaultCases}

pub first_fault-cases : FirstFaultCases
unfolding fault_cases run_cases header_cases length_cases last_byte_cases row_cases refuse and_then le little encode_zone good_record good_zone faults.first_fault fault_unless zone_fault seq_rows runs capacity_of all_healthy cnv_rows zones_from encode_zones encode_report end_of whole_zones fault_after fault_from passed_from first_fault end_fault passed_zones finished_runs finished_cnv finished_seq
first_fault-cases = record { faults = refl; runs = refl; headers = refl; lengths = refl; last_bytes = refl; rows = refl }
