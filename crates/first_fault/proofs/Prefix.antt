-- Zones have no fewer files than the first of them alone: tables that suffice for all suffice before each of them.
-- Assumes nothing.
use Prim.Native.Nat.{ℕ, ◌≤◌}
use native.Mathlib.Omega.{arith}
use mathlib.Core.Path.{◌≡◌}
use mathlib.Core.Bool.{Bool, true, false, ◌&&◌}
use mathlib.Core.List.{List, [], ◌∷◌, ◌++◌}
use borrow.Author.Tests.{ltb-false, le-ltb}
use lib.Dec.{ltb}
use lib.ListN.{length, length-map}
use Rattle.types.proofs.Tests.{or_left, or_right}
use Rattle.zones.specs.declared.Zone.{Zone}
use Rattle.zones.specs.Zone.{conventional, sequential}
use Rattle.files.specs.Files.{seq_row, seq_rows, starts_conventional, runs_with, run_row, runs, cnv_rows}
use Rattle.files.proofs.Walks.{if_count}
use Rattle.first_fault.specs.FirstFault.{out_of_rows}

-- a zone in front of no run, and in front of some
first_run_lem : (plain joins joins' : Bool) (z : Zone) (rs : List (List Zone)) → length (runs_with plain joins z []) ≤ length (runs_with plain joins' z rs)
first_run_lem false joins joins' z rs = omega arith
first_run_lem true true true z [] = omega arith
first_run_lem true true true z (r ∷ rs) = omega arith
first_run_lem true true false z rs = omega arith
first_run_lem true false true z [] = omega arith
first_run_lem true false true z (r ∷ rs) = omega arith
first_run_lem true false false z rs = omega arith

-- in front of fewer, and in front of more
more_runs : (plain joins : Bool) (z : Zone) (rs qs : List (List Zone)) → length rs ≤ length qs → length (runs_with plain joins z rs) ≤ length (runs_with plain joins z qs)
more_runs false joins z rs qs h = h
more_runs true false z rs qs h = omega arith
more_runs true true z [] [] h = omega arith
more_runs true true z [] (q ∷ qs) h = omega arith
more_runs true true z (r ∷ rs) [] h = absurd (omega arith)
more_runs true true z (r ∷ rs) (q ∷ qs) h = omega arith

runs_before : (aggregate : Bool) (zs ys : List Zone) → length (runs aggregate zs) ≤ length (runs aggregate (zs ++ ys))
unfolding runs
runs_before aggregate [] ys = omega arith
runs_before aggregate (z ∷ []) ys = first_run_lem (conventional z) (aggregate && false) (aggregate && starts_conventional ys) z (runs aggregate ys)
runs_before aggregate (z ∷ y ∷ zs) ys =
    more_runs (conventional z) (aggregate && conventional y) z (runs aggregate (y ∷ zs)) (runs aggregate (y ∷ zs ++ ys)) (runs_before aggregate (y ∷ zs) ys)

cnvs_before : (aggregate : Bool) (zs ys : List Zone) → length (cnv_rows aggregate zs) ≤ length (cnv_rows aggregate (zs ++ ys))
unfolding cnv_rows
cnvs_before aggregate zs ys =
    omega (arith, runs_before aggregate zs ys, length-map (runs aggregate zs) run_row, length-map (runs aggregate (zs ++ ys)) run_row)

seqs_before : (zs ys : List Zone) → length (seq_rows zs) ≤ length (seq_rows (zs ++ ys))
unfolding seq_rows
seqs_before [] ys = omega arith
seqs_before (z ∷ zs) ys =
    omega (arith, seqs_before zs ys, if_count (sequential z) (seq_row z) (seq_rows zs), if_count (sequential z) (seq_row z) (seq_rows (zs ++ ys)))

-- zone 0 is no file
module _ (unit : ℕ) (aggregate : Bool) (cnv_room seq_room : ℕ) where
  pub fits_none : out_of_rows unit aggregate cnv_room seq_room [] ≡ false
  unfolding cnv_rows runs seq_rows
  fits_none = let c : ltb cnv_room 0 ≡ false = le-ltb cnv_room 0 (omega arith) in let s : ltb seq_room 0 ≡ false = le-ltb seq_room 0 (omega arith) in rw (c, s)

  pub fits_before : (zs ys : List Zone) → out_of_rows unit aggregate cnv_room seq_room (zs ++ ys) ≡ false → out_of_rows unit aggregate cnv_room seq_room zs ≡ false
  fits_before [] ys h = fits_none
  fits_before (z ∷ zs) ys h =
      let cs = length (cnv_rows aggregate (zs ++ ys)) in
      let ss = length (seq_rows (zs ++ ys)) in
      let wide = ltb-false cnv_room cs (or_left (ltb cnv_room cs) (ltb seq_room ss) h) in
      let deep = ltb-false seq_room ss (or_right (ltb cnv_room cs) (ltb seq_room ss) h) in
      let c : ltb cnv_room (length (cnv_rows aggregate zs)) ≡ false = le-ltb cnv_room _ (omega (arith, cnvs_before aggregate zs ys)) in
      let s : ltb seq_room (length (seq_rows zs)) ≡ false = le-ltb seq_room _ (omega (arith, seqs_before zs ys)) in
      rw (c, s)
