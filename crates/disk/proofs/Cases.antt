-- The small cases of the disk's rules, computed.
-- Assumes nothing.
use mathlib.Core.Path.{refl}
use Rattle.disk.specs.Disk.{zone_holding, moved, struck, allows, perform, reported}
use Rattle.disk.specs.Shows.{shows_zone}
use Rattle.disk.specs.Cases.{command_cases, allowed_cases, mishap_cases, report_cases, DiskCases}

pub disk-cases : DiskCases
unfolding command_cases allowed_cases mishap_cases report_cases zone_holding moved struck allows perform reported shows_zone
disk-cases = record { commands = refl; allowed = refl; mishaps = refl; reports = refl }
