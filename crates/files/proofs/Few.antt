-- There are no more files of either kind than zones.
-- Assumes nothing.
use mathlib.Core.List.{List, [], ◌∷◌}
use mathlib.Core.Bool.{Bool, true, false, ◌&&◌}
use Prim.Native.Nat.{suc, ◌≤◌}
use native.Mathlib.Omega.{arith}
use lib.ListN.{length, length-map}
use Rattle.zones.specs.declared.Zone.{Zone}
use Rattle.zones.specs.Zone.{conventional, sequential}
use Rattle.files.specs.Files.{seq_row, seq_rows, starts_conventional, runs_with, run_row, runs, cnv_rows}
use Rattle.files.proofs.Walks.{if_count, flag_small}

pub seqs_few : (zs : List Zone) → length (seq_rows zs) ≤ length zs
unfolding seq_rows
seqs_few [] = omega arith
seqs_few (z ∷ zs) = omega (arith, seqs_few zs, if_count (sequential z) (seq_row z) (seq_rows zs), flag_small (sequential z))

with_few : (plain joins : Bool) (z : Zone) (rs : List (List Zone)) → length (runs_with plain joins z rs) ≤ suc (length rs)
with_few false joins z rs = omega arith
with_few true false z rs = omega arith
with_few true true z [] = omega arith
with_few true true z (r ∷ rs) = omega arith

runs_few : (aggregate : Bool) (zs : List Zone) → length (runs aggregate zs) ≤ length zs
unfolding runs
runs_few aggregate [] = omega arith
runs_few aggregate (z ∷ zs) = omega (arith, runs_few aggregate zs, with_few (conventional z) (aggregate && starts_conventional zs) z (runs aggregate zs))

pub cnvs_few : (aggregate : Bool) (zs : List Zone) → length (cnv_rows aggregate zs) ≤ length zs
unfolding cnv_rows
cnvs_few aggregate zs = omega (arith, length-map (runs aggregate zs) run_row, runs_few aggregate zs)
