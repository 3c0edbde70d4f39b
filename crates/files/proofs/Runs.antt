-- Going from zone to zone gives the rows of the longest runs.
-- Assumes nothing.
use mathlib.Core.Path.{◌≡◌, refl, ap, ◌∙◌}
use Prim.Native.Nat.{ℕ, ◌+◌}
use native.Mathlib.Nat.{add-zero, add_assoc}
use mathlib.Core.List.{List, [], ◌∷◌, map}
use mathlib.Core.Bool.{Bool, true, false, ◌&&◌, and-true, and_assoc}
use Rattle.types.specs.declared.Row.{Row}
use Rattle.types.proofs.Tests.{cases}
use Rattle.zones.specs.declared.Zone.{Zone}
use Rattle.zones.specs.Zone.{conventional}
use Rattle.files.specs.declared.Run.{Run}
use Rattle.files.specs.Files.{row_if, starts_conventional, runs_with, runs, capacity_of, all_healthy, run_row, cnv_rows}
use Rattle.files.specs.Walk.{no_run, first_run, longer_run, next_run, run_ends, row_of_run}

-- the rows from zone to zone, where the run s came before these
unfoldable pub cnv_from : Bool → Run → List Zone → List Row
cnv_from aggregate s [] = row_if s.active (row_of_run s) []
cnv_from aggregate s (z ∷ zs) = row_if (run_ends aggregate s z) (row_of_run s) (cnv_from aggregate (next_run aggregate s z) zs)

-- a run with zones after it
abbrev grown : Run → List Zone → Run
grown s g = record { active = true; start = s.start; capacity = s.capacity + capacity_of g; healthy = s.healthy && all_healthy g }

-- the rows of the run s and of these runs, of which the first goes on with s if it can
unfoldable carried : Bool → Run → List (List Zone) → List Row
carried false s gs = row_of_run s ∷ map run_row gs
carried true s [] = row_of_run s ∷ []
carried true s (g ∷ gs) = row_of_run (grown s g) ∷ map run_row gs

-- a run that starts at z, and one that goes on at z; j says whether the next zone goes on too
starts : (z : Zone) (j : Bool) (gs : List (List Zone)) → carried j (first_run z) gs ≡ map run_row (runs_with true j z gs)
unfolding carried capacity_of all_healthy
starts z false gs = rw (add-zero z.capacity, and-true)
starts z true [] = rw (add-zero z.capacity, and-true)
starts z true (g ∷ gs) = refl

goes_on_lem : (s : Run) (z : Zone) (j : Bool) (gs : List (List Zone)) → carried j (longer_run s z) gs ≡ carried true s (runs_with true j z gs)
unfolding carried capacity_of all_healthy
goes_on_lem s z false gs = rw (add-zero z.capacity, and-true)
goes_on_lem s z true [] = rw (add-zero z.capacity, and-true)
goes_on_lem s z true (g ∷ gs) = rw (add_assoc, and_assoc)

-- what the walk gives after a run, and after none
abbrev active_run : ℕ → ℕ → Bool → Run
active_run start capacity well = record { active = true; start = start; capacity = capacity; healthy = well }

abbrev After : Bool → List Zone → Type 0
After aggregate zs =
    (a c : ℕ) (w : Bool) → cnv_from aggregate (active_run a c w) zs ≡ carried (aggregate && starts_conventional zs) (active_run a c w) (runs aggregate zs)

abbrev Fresh : Bool → List Zone → Type 0
Fresh aggregate zs = cnv_from aggregate no_run zs ≡ map run_row (runs aggregate zs)

walk : (aggregate : Bool) (zs : List Zone) → After aggregate zs × Fresh aggregate zs
unfolding cnv_from next_run runs carried
walk true [] = ((λ a c w. refl), refl)
walk false [] = ((λ a c w. refl), refl)
walk true (z ∷ zs) =
    let rest = walk true zs in
    cases (conventional z)
    (λ h. (
      (λ a c w. rw h (rest.0 _ _ _ ∙ goes_on_lem (active_run a c w) z (starts_conventional zs) (runs true zs))),
      rw h (rest.0 _ _ _ ∙ starts z (starts_conventional zs) (runs true zs)),
    ))
    (λ h. ((λ a c w. rw h (ap (λ (l : List Row). row_of_run (active_run a c w) ∷ l) rest.1)), rw h rest.1))
walk false (z ∷ zs) =
    let rest = walk false zs in
    cases (conventional z)
    (λ h. (
      (λ a c w. rw h (ap (λ (l : List Row). row_of_run (active_run a c w) ∷ l) (rest.0 _ _ _ ∙ starts z false (runs false zs)))),
      rw h (rest.0 _ _ _ ∙ starts z false (runs false zs)),
    ))
    (λ h. ((λ a c w. rw h (ap (λ (l : List Row). row_of_run (active_run a c w) ∷ l) rest.1)), rw h rest.1))

pub cnv_from_lem : (aggregate : Bool) (zs : List Zone) → cnv_from aggregate no_run zs ≡ cnv_rows aggregate zs
unfolding cnv_rows
cnv_from_lem aggregate zs = (walk aggregate zs).1
