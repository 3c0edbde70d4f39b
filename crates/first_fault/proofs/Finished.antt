-- The rows of the runs that are finished, by the walk over the zones that passed: those of the runs that it has ended, and that of the run left where
-- what comes next finishes it.
-- Assumes nothing.
use mathlib.Core.Path.{◌≡◌, refl, ◌∙◌, sym}
use mathlib.Core.List.{List, [], ◌∷◌, ◌++◌, append-nil}
use mathlib.Core.Bool.{Bool, true, false, cond, not, ◌&&◌, ◌||◌, or-false}
use Prim.Native.Nat.{ℕ, ◌-◌, ◌<◌}
use native.Mathlib.Omega.{arith}
use borrow.Author.Tests.{ne_eqb}
use lib.ListN.{length, drop, length-append}
use lib.Seq.{take_at, drop-length, drop-append_seam}
use lib.Dec.{eqb}
use Rattle.types.specs.declared.Row.{Row}
use Rattle.zones.specs.declared.Zone.{Zone}
use Rattle.zones.specs.Zone.{good_zone}
use Rattle.files.specs.Files.{row_if}
use Rattle.files.specs.Walk.{begun, walked, row_of_run}
use Rattle.report.specs.Facts.{end_of}
use Rattle.intake.specs.Steps.{ends_with}
use Rattle.first_fault.specs.FirstFault.{ended_by, all_but_last, finished_runs}
use Rattle.first_fault.proofs.Walked.{cnv_ended, ended_next, walked_number, rows_ended, active_last}

module _ (unit : ℕ) (aggregate : Bool) (cnv_room seq_room : ℕ) where
  but_last : (rows : List Row) (r : Row) → all_but_last unit aggregate cnv_room seq_room (rows ++ (r ∷ [])) ≡ rows
  but_last rows r = take_at rows (r ∷ []) (length (rows ++ (r ∷ [])) - 1) (omega (arith, length-append rows (r ∷ [])))

  -- by whether runs are joined, one is left, the zones are all, and what comes next ends it
  by_tests : (rows : List Row) (r : Row) (joins active all ended : Bool)
      → cond (joins && active && not all && not ended) (all_but_last unit aggregate cnv_room seq_room (rows ++ row_if active r [])) (rows ++ row_if active r [])
      ≡ rows ++ row_if (active && (not joins || all || ended)) r []
  by_tests rows r false true all ended = refl
  by_tests rows r false false all ended = refl
  by_tests rows r true false all ended = refl
  by_tests rows r true true true ended = refl
  by_tests rows r true true false true = refl
  by_tests rows r true true false false = but_last rows r ∙ sym (append-nil rows)

  module _ (count : ℕ) (passed all : List Zone) where
    finished_by : finished_runs unit aggregate cnv_room seq_room count passed all
        ≡ cnv_ended aggregate begun passed
        ++ row_if ((walked aggregate begun passed).run.active && (not aggregate || eqb (walked aggregate begun passed).number count
        || ended_by unit aggregate cnv_room seq_room passed (drop (length passed) all)))
        (row_of_run (walked aggregate begun passed).run) []
    unfolding finished_runs
    finished_by =
        rw (rows_ended aggregate passed, ← active_last aggregate unit cnv_room seq_room passed, ← walked_number aggregate passed)
        (by_tests (cnv_ended aggregate begun passed) _ aggregate _ _ _)

    -- nothing that comes next ends the run that is left
    none_ends : ended_by unit aggregate cnv_room seq_room passed (drop (length passed) all) ≡ false
        → finished_runs unit aggregate cnv_room seq_room count passed all
        ≡ cnv_ended aggregate begun passed
        ++ row_if (ends_with aggregate count (walked aggregate begun passed)) (row_of_run (walked aggregate begun passed).run) []
    none_ends h = finished_by ∙ rw (h, or-false)

  -- ALL PASSED, or a bad zone comes next
  pub finished_all : (count : ℕ) (passed : List Zone)
      → finished_runs unit aggregate cnv_room seq_room count passed passed
      ≡ cnv_ended aggregate begun passed
      ++ row_if (ends_with aggregate count (walked aggregate begun passed)) (row_of_run (walked aggregate begun passed).run) []
  finished_all count passed = none_ends count passed passed (rw (drop-length passed))

  pub finished_bad : (count : ℕ) (passed : List Zone) (z : Zone) (zs : List Zone) → good_zone unit (end_of 0 passed) z ≡ false
      → finished_runs unit aggregate cnv_room seq_room count passed (passed ++ (z ∷ zs))
      ≡ cnv_ended aggregate begun passed
      ++ row_if (ends_with aggregate count (walked aggregate begun passed)) (row_of_run (walked aggregate begun passed).run) []
  finished_bad count passed z zs bad = none_ends count passed (passed ++ (z ∷ zs)) (rw (drop-append_seam, bad))

  -- A GOOD ZONE COMES NEXT that didn't pass: it has ended its runs
  ends_alike : (active joins plain : Bool) → active && (not joins || false || not plain) ≡ active && not (joins && plain)
  ends_alike false joins plain = refl
  ends_alike true true plain = refl
  ends_alike true false plain = refl

  pub finished_good : (count : ℕ) (passed : List Zone) (z : Zone) (zs : List Zone) → good_zone unit (end_of 0 passed) z ≡ true → length passed < count
      → finished_runs unit aggregate cnv_room seq_room count passed (passed ++ (z ∷ zs)) ≡ cnv_ended aggregate begun (passed ++ (z ∷ []))
  finished_good count passed z zs good h =
      let more : eqb (walked aggregate begun passed).number count ≡ false =
      ne_eqb (walked aggregate begun passed).number count (λ q. omega (arith, walked_number aggregate passed)) in
      finished_by count passed (passed ++ (z ∷ zs))
      ∙ rw (drop-append_seam, good, more, ends_alike) (sym (ended_next aggregate begun passed z))
