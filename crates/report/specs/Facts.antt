-- What a good header tells: functions that are called only after its test ask for it. And what 29 tells.
use Rattle.std.specs.Prelude.{ℕ, ◌+◌, ◌*◌, ◌≤◌, ◌≡◌, List, [], ◌∷◌, ◌++◌, length, Option, Some, Ok}
use Rattle.types.specs.Blocks.{most_zones}
use Rattle.types.specs.declared.ZoneFault.{ZoneFault}
use Rattle.zones.specs.declared.Zone.{Zone}
use Rattle.zones.specs.Zone.{zone_bytes}
use Rattle.zones.specs.Faults.{zone_tests}
use Rattle.zones.specs.Facts.{First}
use Rattle.report.specs.Report.{header_bytes, zone_count, zones_check}

pub record Framed (b : List ℕ) : Type 0 where
  pub some : 1 ≤ zone_count b
  pub few : zone_count b ≤ most_zones
  pub whole : length b ≡ header_bytes + zone_bytes * zone_count b

-- where zones end that follow each other from `expected` on
unfoldable pub end_of : ℕ → List Zone → ℕ
end_of expected [] = expected
end_of expected (z ∷ zs) = end_of (z.start + z.length) zs

-- of 29 with this zone number and reason, where the first zone has the number `first` and is to start at `expected`: no zone before it is bad, and
-- of its own tests none before the reason's fails
pub record Lowest (unit first expected : ℕ) (zs : List Zone) (number : ℕ) (reason : Option ZoneFault) : Type 0 where
  pub before : List Zone
  pub bad : Zone
  pub after : List Zone
  pub order : zs ≡ before ++ (bad ∷ after)
  pub at : first + length before ≡ number
  pub passed : zones_check unit first expected before ≡ Ok tt
  pub fault : ZoneFault
  pub told : reason ≡ Some fault
  pub because : First fault (zone_tests unit (end_of expected before) bad)
