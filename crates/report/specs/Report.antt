-- A zone report: its header, its zones as a list, its bytes, and what its checks find.
use Rattle.std.specs.Prelude.{ℕ, zero, suc, ◌+◌, ◌*◌, List, [], ◌∷◌, ◌++◌, Bool, not, ◌&&◌, length, leb, eqb, Result, Ok}
use Rattle.types.specs.Blocks.{most_zones}
use Rattle.types.specs.Verdicts.{refuse, giving}
use Rattle.types.specs.declared.Refusal.{Refusal}
use Rattle.types.specs.declared.Refusal.TheVariants.{BadReport, BadZone}
use Rattle.types.specs.Answers.{Verdict}
use Rattle.wire.specs.Le.{le, little}
use Rattle.zones.specs.declared.Zone.{Zone}
use Rattle.zones.specs.Zone.{zone_bytes, zone_at, encode_zone, good_zone}
use Rattle.zones.specs.Faults.{zone_fault}
use Rattle.files.specs.declared.Walk.{Walk}
use Rattle.files.specs.Walk.{begun, walked}

-- ---- its header

-- "Header of 16"
abbrev pub header_bytes : ℕ
header_bytes = 16

-- "zone count u32", after the sector
abbrev pub zone_count : List ℕ → ℕ
zone_count b = le 4 b 8

-- "bit 0: capacity given"
abbrev pub capacity_given : List ℕ → Bool
capacity_given b = eqb (le 4 b 12) 1

-- "sector u64 (0), zone count u32 (1 to 1,023), flags u32 (bit 0: capacity given; others zero)", where 02 raises the most zones: "Raise the limit to
-- 65,536 zones"
abbrev pub good_fields : List ℕ → Bool
good_fields b = eqb (le 8 b 0) 0 && leb 1 (zone_count b) && leb (zone_count b) most_zones && leb (le 4 b 12) 1

-- "The length is exactly 16 + 64 × count."
unfoldable pub good_header : List ℕ → Bool
good_header b = leb header_bytes (length b) && (good_fields b && eqb (length b) (header_bytes + zone_bytes * zone_count b))

-- ---- its zones

-- the zone of a number
abbrev pub report_zone : List ℕ → ℕ → Zone
report_zone b i = zone_at (capacity_given b) b (header_bytes + zone_bytes * i)

-- n zones, from number i on
unfoldable pub zones_from : ℕ → List ℕ → ℕ → List Zone
zones_from zero b i = []
zones_from (suc n) b i = report_zone b i ∷ zones_from n b (i + 1)

-- all of them
unfoldable pub zones_of : List ℕ → List Zone
zones_of b = zones_from (zone_count b) b 0

-- ---- the other way round: the report of these zones, with their capacities given

unfoldable pub encode_zones : List Zone → List ℕ
encode_zones [] = []
encode_zones (z ∷ zs) = encode_zone z ++ encode_zones zs

unfoldable pub encode_report : List Zone → List ℕ
encode_report zs = little 8 0 ++ (little 4 (length zs) ++ (little 4 1 ++ encode_zones zs))

-- ---- its checks

-- "bad zone, with the lowest zone number" is 29; "the first starts at 0, each next where the last ended". 02: "A bad zone's refusal carries a
-- reason, the first of"
unfoldable pub zones_check : ℕ → ℕ → ℕ → List Zone → Verdict
zones_check unit number expected [] = Ok tt
zones_check unit number expected (z ∷ zs) =
    refuse (not (good_zone unit expected z)) (BadZone number (zone_fault unit expected z))
    (zones_check unit (number + 1) (z.start + z.length) zs)

-- "report header or length" is 28
unfoldable pub report_check : ℕ → List ℕ → Verdict
report_check unit b = refuse (not (good_header b)) BadReport (zones_check unit 0 0 (zones_of b))

-- and the walk over its zones, where it is good input
abbrev pub report_read : ℕ → Bool → List ℕ → Result Walk Refusal
report_read unit aggregate b = giving (report_check unit b) (walked aggregate begun (zones_of b))
