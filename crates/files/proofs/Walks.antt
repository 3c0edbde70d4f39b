-- The walk: what a step does to its numbers, that it finishes the rows of `Files` and counts them, and that none of its sums wraps.
-- Assumes nothing.
use mathlib.Core.Path.{◌≡◌, refl, ap, ◌∙◌}
use mathlib.Core.List.{List, [], ◌∷◌}
use mathlib.Core.Bool.{Bool, true, false, cond, ◌&&◌}
use Prim.Native.Nat.{ℕ, ◌+◌, ◌≤◌, ◌<◌}
use native.Mathlib.Omega.{arith}
use borrow.Author.Tests.{ne_eqb}
use lib.ListN.{length, drop}
use Rattle.types.specs.Blocks.{most_zones}
use Rattle.types.specs.Codes.{flag_code}
use Rattle.types.specs.declared.Row.{Row}
use Rattle.zones.specs.declared.Zone.{Zone}
use Rattle.zones.specs.Zone.{conventional}
use Rattle.zones.specs.Facts.{Bounded}
use Rattle.files.specs.declared.Run.{Run}
use Rattle.files.specs.declared.Walk.{Walk}
use Rattle.files.specs.Files.{row_if, seq_row, seq_rows, cnv_rows}
use Rattle.files.specs.Walk.{next_run, run_ends, row_of_run, is_seq_file, begun, at_zone0, stepped, walked, cnv_files, cnv_left, seq_left}
use Rattle.files.specs.Facts.{BoundedWalk}
use Rattle.files.proofs.Runs.{cnv_from, cnv_from_lem}

-- A STEP

module _ (aggregate : Bool) (w : Walk) (z : Zone) where
  pub step_number : (stepped aggregate w z).number ≡ w.number + 1
  unfolding stepped
  step_number = refl

  pub step_expected : (stepped aggregate w z).expected ≡ z.start + z.length
  unfolding stepped
  step_expected = refl

  pub step_cnvs : (stepped aggregate w z).cnvs ≡ w.cnvs + flag_code (run_ends aggregate w.run z)
  unfolding stepped
  step_cnvs = refl

  pub step_seqs : (stepped aggregate w z).seqs ≡ w.seqs + flag_code (is_seq_file w z)
  unfolding stepped
  step_seqs = refl

  -- zone 0 is behind it
  step_past : at_zone0 (stepped aggregate w z) ≡ false
  step_past = ne_eqb (stepped aggregate w z).number 0 (λ q. omega (arith, step_number))

  step_run : at_zone0 w ≡ false → (stepped aggregate w z).run ≡ next_run aggregate w.run z
  unfolding stepped
  step_run h = rw h

-- THE ROWS, past zone 0 and from the beginning

cnv_past : (aggregate : Bool) (w : Walk) (zs : List Zone) → at_zone0 w ≡ false → cnv_left aggregate w zs ≡ cnv_from aggregate w.run zs
unfolding cnv_left cnv_from
cnv_past aggregate w [] h = refl
cnv_past aggregate w (z ∷ zs) h =
    let rest : cnv_left aggregate (stepped aggregate w z) zs ≡ cnv_from aggregate (next_run aggregate w.run z) zs =
    cnv_past aggregate (stepped aggregate w z) zs (step_past aggregate w z) ∙ ap (λ (s : Run). cnv_from aggregate s zs) (step_run aggregate w z h) in
    rw rest

pub cnv_walk : (aggregate : Bool) (zs : List Zone) → cnv_left aggregate begun zs ≡ cnv_rows aggregate (drop 1 zs)
unfolding cnv_left cnv_from stepped
cnv_walk aggregate [] = cnv_from_lem aggregate []
cnv_walk aggregate (z ∷ zs) = cnv_past aggregate (stepped aggregate begun z) zs (step_past aggregate begun z) ∙ cnv_from_lem aggregate zs

seq_past : (aggregate : Bool) (w : Walk) (zs : List Zone) → at_zone0 w ≡ false → seq_left aggregate w zs ≡ seq_rows zs
unfolding seq_left seq_rows
seq_past aggregate w [] h = refl
seq_past aggregate w (z ∷ zs) h = rw (h, seq_past aggregate (stepped aggregate w z) zs (step_past aggregate w z))

pub seq_walk : (aggregate : Bool) (zs : List Zone) → seq_left aggregate begun zs ≡ seq_rows (drop 1 zs)
unfolding seq_left seq_rows
seq_walk aggregate [] = refl
seq_walk aggregate (z ∷ zs) = seq_past aggregate (stepped aggregate begun z) zs (step_past aggregate begun z)

-- THE COUNTS

pub if_count : (y : Bool) (r : Row) (rest : List Row) → length (row_if y r rest) ≡ flag_code y + length rest
if_count true r rest = omega arith
if_count false r rest = omega arith

cnv-counted : (aggregate : Bool) (w : Walk) (zs : List Zone) → cnv_files (walked aggregate w zs) ≡ w.cnvs + length (cnv_left aggregate w zs)
unfolding walked cnv_left
cnv-counted aggregate w [] = omega (arith, if_count w.run.active (row_of_run w.run) [])
cnv-counted aggregate w (z ∷ zs) =
    omega (
      arith,
      cnv-counted aggregate (stepped aggregate w z) zs,
      step_cnvs aggregate w z,
      if_count (run_ends aggregate w.run z) (row_of_run w.run) (cnv_left aggregate (stepped aggregate w z) zs),
    )

seq-counted : (aggregate : Bool) (w : Walk) (zs : List Zone) → (walked aggregate w zs).seqs ≡ w.seqs + length (seq_left aggregate w zs)
unfolding walked seq_left
seq-counted aggregate w [] = omega arith
seq-counted aggregate w (z ∷ zs) =
    omega (
      arith,
      seq-counted aggregate (stepped aggregate w z) zs,
      step_seqs aggregate w z,
      if_count (is_seq_file w z) (seq_row z) (seq_left aggregate (stepped aggregate w z) zs),
    )

pub cnv_count_lem : (aggregate : Bool) (zs : List Zone) → cnv_files (walked aggregate begun zs) ≡ length (cnv_rows aggregate (drop 1 zs))
cnv_count_lem aggregate zs = omega (arith, cnv-counted aggregate begun zs, ap length (cnv_walk aggregate zs))

pub seq_count : (aggregate : Bool) (zs : List Zone) → (walked aggregate begun zs).seqs ≡ length (seq_rows (drop 1 zs))
seq_count aggregate zs = omega (arith, seq-counted aggregate begun zs, ap length (seq_walk aggregate zs))

-- NO SUM WRAPS

pub flag_small : (y : Bool) → flag_code y ≤ 1
flag_small true = omega arith
flag_small false = omega arith

pub bounded_begun : BoundedWalk begun
bounded_begun = record { number = omega arith; expected = omega arith; run = omega arith; cnvs = omega arith; seqs = omega arith }

-- a run grows by a zone's capacity at most
run_grows : (first plain joins : Bool) (s t u v : Run) (k : ℕ) → s.capacity ≤ k → t.capacity ≤ k → u.capacity ≤ k → v.capacity ≤ k
    → (cond first s (cond plain (cond joins t u) v)).capacity ≤ k
run_grows true plain joins s t u v k hs ht hu hv = hs
run_grows false true true s t u v k hs ht hu hv = ht
run_grows false true false s t u v k hs ht hu hv = hu
run_grows false false joins s t u v k hs ht hu hv = hv

run_bounded : (aggregate : Bool) (w : Walk) (z : Zone) → (stepped aggregate w z).run.capacity ≤ w.run.capacity + z.capacity
unfolding stepped next_run
run_bounded aggregate w z =
    run_grows (at_zone0 w) (conventional z) (aggregate && w.run.active) _ _ _ _ (w.run.capacity + z.capacity) (omega arith) (omega arith) (omega arith) (omega arith)

-- z starts where the last zone ended, so what the run gains is within what the walk has moved on
pub bounded_step : (aggregate : Bool) (w : Walk) (z : Zone) → BoundedWalk w → z.start ≡ w.expected → Bounded z → w.number < most_zones
    → BoundedWalk (stepped aggregate w z)
bounded_step aggregate w z b e s h =
    record {
      number = omega (arith, step_number aggregate w z);
      expected = omega (arith, step_expected aggregate w z, s.end);
      run = omega (arith, step_expected aggregate w z, run_bounded aggregate w z, b.run, s.held);
      cnvs = omega (arith, step_number aggregate w z, step_cnvs aggregate w z, flag_small (run_ends aggregate w.run z));
      seqs = omega (arith, step_number aggregate w z, step_seqs aggregate w z, flag_small (is_seq_file w z));
    }
