-- A walk over zones, with one zone more at its end: its numbers, the rows of the runs that it has ended, and whether a run is left.
-- Assumes nothing.
use mathlib.Core.Path.{◌≡◌, refl, ap, ◌∙◌, sym}
use mathlib.Core.List.{List, [], ◌∷◌, ◌++◌}
use mathlib.Core.Bool.{Bool, true, false, cond, not, ◌&&◌}
use Prim.Native.Nat.{ℕ, ◌+◌}
use native.Mathlib.Omega.{arith}
use borrow.Author.Tests.{ne_eqb}
use lib.ListN.{length, drop}
use Rattle.types.specs.declared.Row.{Row}
use Rattle.zones.specs.declared.Zone.{Zone}
use Rattle.zones.specs.Zone.{conventional}
use Rattle.files.specs.declared.Walk.{Walk}
use Rattle.files.specs.Files.{row_if, seq_row, cnv_rows}
use Rattle.files.specs.Walk.{no_run, first_run, longer_run, next_run, run_ends, row_of_run, begun, at_zone0, is_seq_file, stepped, walked, cnv_left, seq_left}
use Rattle.files.proofs.Walks.{step_number, step_expected, step_cnvs, if_count, cnv_walk}
use Rattle.report.specs.Facts.{end_of}
use Rattle.first_fault.specs.FirstFault.{last_conventional}

-- a row, or none, in front of others, and after them
if_append : (y : Bool) (r : Row) (rest last : List Row) → row_if y r (rest ++ last) ≡ row_if y r rest ++ last
if_append true r rest last = refl
if_append false r rest last = refl

-- the rows of the runs that these zones end
unfoldable pub cnv_ended : Bool → Walk → List Zone → List Row
cnv_ended aggregate w [] = []
cnv_ended aggregate w (z ∷ zs) = row_if (run_ends aggregate w.run z) (row_of_run w.run) (cnv_ended aggregate (stepped aggregate w z) zs)

module _ (aggregate : Bool) where
  -- ONE ZONE MORE

  pub walked_next : (w : Walk) (zs : List Zone) (z : Zone) → walked aggregate w (zs ++ (z ∷ [])) ≡ stepped aggregate (walked aggregate w zs) z
  unfolding walked
  walked_next w [] z = refl
  walked_next w (y ∷ zs) z = walked_next (stepped aggregate w y) zs z

  pub ended_next : (w : Walk) (zs : List Zone) (z : Zone)
      → cnv_ended aggregate w (zs ++ (z ∷ []))
      ≡ cnv_ended aggregate w zs ++ row_if (run_ends aggregate (walked aggregate w zs).run z) (row_of_run (walked aggregate w zs).run) []
  unfolding walked cnv_ended
  ended_next w [] z = refl
  ended_next w (y ∷ zs) z =
      ap (row_if (run_ends aggregate w.run y) (row_of_run w.run)) (ended_next (stepped aggregate w y) zs z)
      ∙ if_append (run_ends aggregate w.run y) (row_of_run w.run) _ _

  pub left_next : (w : Walk) (zs : List Zone) (z : Zone)
      → seq_left aggregate w (zs ++ (z ∷ [])) ≡ seq_left aggregate w zs ++ row_if (is_seq_file (walked aggregate w zs) z) (seq_row z) []
  unfolding walked seq_left
  left_next w [] z = refl
  left_next w (y ∷ zs) z =
      ap (row_if (is_seq_file w y) (seq_row y)) (left_next (stepped aggregate w y) zs z) ∙ if_append (is_seq_file w y) (seq_row y) _ _

  -- ITS NUMBERS

  number_from : (w : Walk) (zs : List Zone) → (walked aggregate w zs).number ≡ w.number + length zs
  unfolding walked
  number_from w [] = omega arith
  number_from w (z ∷ zs) = omega (arith, number_from (stepped aggregate w z) zs, step_number aggregate w z)

  pub walked_number : (zs : List Zone) → (walked aggregate begun zs).number ≡ length zs
  walked_number zs = omega (arith, number_from begun zs)

  expected_from : (w : Walk) (zs : List Zone) → (walked aggregate w zs).expected ≡ end_of w.expected zs
  unfolding walked end_of
  expected_from w [] = refl
  expected_from w (z ∷ zs) = expected_from (stepped aggregate w z) zs ∙ ap (λ (n : ℕ). end_of n zs) (step_expected aggregate w z)

  pub walked_expected : (zs : List Zone) → (walked aggregate begun zs).expected ≡ end_of 0 zs
  walked_expected zs = expected_from begun zs

  ended_from : (w : Walk) (zs : List Zone) → (walked aggregate w zs).cnvs ≡ w.cnvs + length (cnv_ended aggregate w zs)
  unfolding walked cnv_ended
  ended_from w [] = omega arith
  ended_from w (z ∷ zs) =
      omega (
        arith,
        ended_from (stepped aggregate w z) zs,
        step_cnvs aggregate w z,
        if_count (run_ends aggregate w.run z) (row_of_run w.run) (cnv_ended aggregate (stepped aggregate w z) zs),
      )

  pub ended_count : (zs : List Zone) → (walked aggregate begun zs).cnvs ≡ length (cnv_ended aggregate begun zs)
  ended_count zs = omega (arith, ended_from begun zs)

  -- ITS ROWS are those of the runs that it has ended, and of the run that is left

  left_ended : (w : Walk) (zs : List Zone)
      → cnv_left aggregate w zs
      ≡ cnv_ended aggregate w zs ++ row_if (walked aggregate w zs).run.active (row_of_run (walked aggregate w zs).run) []
  unfolding walked cnv_left cnv_ended
  left_ended w [] = refl
  left_ended w (z ∷ zs) =
      ap (row_if (run_ends aggregate w.run z) (row_of_run w.run)) (left_ended (stepped aggregate w z) zs)
      ∙ if_append (run_ends aggregate w.run z) (row_of_run w.run) _ _

  pub rows_ended : (zs : List Zone)
      → cnv_rows aggregate (drop 1 zs)
      ≡ cnv_ended aggregate begun zs ++ row_if (walked aggregate begun zs).run.active (row_of_run (walked aggregate begun zs).run) []
  rows_ended zs = sym (cnv_walk aggregate zs) ∙ left_ended begun zs

  -- A RUN IS LEFT where the last zone is conventional; zone 0 is in none

  step_past : (w : Walk) (z : Zone) → at_zone0 (stepped aggregate w z) ≡ false
  step_past w z = ne_eqb (stepped aggregate w z).number 0 (λ q. omega (arith, step_number aggregate w z))

  pub step_active : (w : Walk) (z : Zone) → (stepped aggregate w z).run.active ≡ not (at_zone0 w) && conventional z
  unfolding stepped next_run
  step_active w z = by (at_zone0 w) (conventional z) (aggregate && w.run.active)
    where
      by : (first plain joins : Bool) → (cond first no_run (cond plain (cond joins (longer_run w.run z) (first_run z)) no_run)).active ≡ not first && plain
      by true plain joins = refl
      by false true true = refl
      by false true false = refl
      by false false joins = refl

  module _ (unit cnv_room seq_room : ℕ) where
    active_past : (w : Walk) (z : Zone) (zs : List Zone) → at_zone0 w ≡ false
        → (walked aggregate w (z ∷ zs)).run.active ≡ last_conventional unit aggregate cnv_room seq_room (z ∷ zs)
    unfolding walked
    active_past w z [] h = step_active w z ∙ ap (λ (y : Bool). not y && conventional z) h
    active_past w z (y ∷ zs) h = active_past (stepped aggregate w z) y zs (step_past w z)

    pub active_last : (zs : List Zone) → (walked aggregate begun zs).run.active ≡ last_conventional unit aggregate cnv_room seq_room (drop 1 zs)
    unfolding walked stepped
    active_last [] = refl
    active_last (z ∷ []) = refl
    active_last (z ∷ y ∷ zs) = active_past (stepped aggregate begun z) y zs (step_past begun z)
