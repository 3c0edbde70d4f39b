-- 02, K4: "refused in pieces too, with its first fault in byte order, a missing or extra byte (28) at its place, a zone's fault at its last byte, and the
-- same rows whatever the cuts". What a report's bytes come to that have arrived so far, said over its list of zones, with tables of so many rows. The law
-- `first_fault_lem` shows that the bytes taken one after the other come to exactly this.
use Rattle.std.specs.Prelude.{ℕ, ◌+◌, ◌-◌, ◌*◌, ◌/◌, min, List, [], ◌∷◌, ◌++◌, Bool, false, cond, not, ◌&&◌, ◌||◌, length, take, drop, eqb, leb, ltb, Ok, Err}
use Rattle.types.specs.Verdicts.{refuse, and_then}
use Rattle.types.specs.declared.Refusal.TheVariants.{BadReport, BadZone, TooFewRows}
use Rattle.types.specs.Answers.{Verdict}
use Rattle.types.specs.declared.Row.{Row}
use Rattle.zones.specs.declared.Zone.{Zone}
use Rattle.zones.specs.Zone.{zone_bytes, conventional, good_zone}
use Rattle.zones.specs.Faults.{zone_fault}
use Rattle.files.specs.Files.{cnv_rows, seq_rows}
use Rattle.report.specs.Report.{header_bytes, zone_count, good_fields, zones_from}
use Rattle.report.specs.Facts.{end_of}
use Rattle.mount.specs.Mount.{too_few}

-- ---- the bytes that there are

-- "16 + 64 × count"
abbrev pub report_bytes : List ℕ → ℕ
report_bytes b = header_bytes + zone_bytes * zone_count b

-- those of the count's zones that are whole
unfoldable pub whole_zones : List ℕ → List Zone
whole_zones b = zones_from (min (zone_count b) ((length b - header_bytes) / zone_bytes)) b 0

module _ (unit : ℕ) (aggregate : Bool) (cnv_room seq_room : ℕ) where
  -- ---- the first fault of zones

  -- these zones have more files than there are rows; zone 0 is none
  abbrev pub out_of_rows : List Zone → Bool
  out_of_rows zs = too_few cnv_room seq_room (length (cnv_rows aggregate (drop 1 zs))) (length (seq_rows (drop 1 zs)))

  -- what is wrong with the zone that comes after these: 29 with its number and reason; "30 .. at the first zone, itself good, of the first file that has
  -- no row"
  unfoldable pub fault_after : List Zone → Zone → Verdict
  fault_after before z =
      refuse (not (good_zone unit (end_of 0 before) z)) (BadZone (length before) (zone_fault unit (end_of 0 before) z))
      (refuse (out_of_rows (before ++ (z ∷ []))) TooFewRows (Ok tt))

  -- the first fault of those that come after these
  unfoldable pub fault_from : List Zone → List Zone → Verdict
  fault_from before [] = Ok tt
  fault_from before (z ∷ zs) = and_then (fault_after before z) (fault_from (before ++ (z ∷ [])) zs)

  -- the zones before it
  abbrev pub on_passed : Verdict → List Zone → List Zone → List Zone
  on_passed (Ok tt) before rest = rest
  on_passed (Err x) before rest = before

  unfoldable pub passed_from : List Zone → List Zone → List Zone
  passed_from before [] = before
  passed_from before (z ∷ zs) = on_passed (fault_after before z) before (passed_from (before ++ (z ∷ [])) zs)

  -- ---- the first fault of bytes

  -- "a missing or extra byte (28) at its place": 28 of a bad header, once it is whole, then the zones' faults, then a byte after the count's last zone
  unfoldable pub first_fault : List ℕ → Verdict
  first_fault b =
      cond (leb header_bytes (length b))
      (refuse (not (good_fields b)) BadReport
      (and_then (fault_from [] (whole_zones b)) (refuse (ltb (report_bytes b) (length b)) BadReport (Ok tt))))
      (Ok tt)

  -- the same at the end, where bytes are missing
  unfoldable pub end_fault : List ℕ → Verdict
  end_fault b = and_then (first_fault b) (refuse (ltb (length b) header_bytes || ltb (length b) (report_bytes b)) BadReport (Ok tt))

  -- the zones that were taken before it: none before a good header
  unfoldable pub passed_zones : List ℕ → List Zone
  passed_zones b = cond (leb header_bytes (length b) && good_fields b) (passed_from [] (whole_zones b)) []

  -- ---- the rows of the files that are finished

  -- the last of these zones is conventional
  abbrev pub last_conventional : List Zone → Bool
  last_conventional [] = false
  last_conventional (z ∷ []) = conventional z
  last_conventional (z ∷ y ∷ zs) = last_conventional (y ∷ zs)

  -- "a good zone of another type, before a 30 there": what comes after these zones finishes their last run. A bad zone finishes nothing.
  abbrev pub ended_by : List Zone → List Zone → Bool
  ended_by before [] = false
  ended_by before (z ∷ zs) = good_zone unit (end_of 0 before) z && not (conventional z)

  -- with feature bit 0 the last run of the zones that passed isn't finished: neither by "the count's last zone" nor by what comes after them among all
  -- that are there
  abbrev pub unfinished : ℕ → List Zone → List Zone → Bool
  unfinished count passed all =
      aggregate && last_conventional (drop 1 passed) && not (eqb (length passed) count) && not (ended_by passed (drop (length passed) all))

  abbrev pub all_but_last : List Row → List Row
  all_but_last rows = take (length rows - 1) rows

  unfoldable pub finished_runs : ℕ → List Zone → List Zone → List Row
  finished_runs count passed all =
      cond (unfinished count passed all) (all_but_last (cnv_rows aggregate (drop 1 passed))) (cnv_rows aggregate (drop 1 passed))

  unfoldable pub finished_cnv : List ℕ → List Row
  finished_cnv b = finished_runs (zone_count b) (passed_zones b) (whole_zones b)

  unfoldable pub finished_seq : List ℕ → List Row
  finished_seq b = seq_rows (drop 1 (passed_zones b))
