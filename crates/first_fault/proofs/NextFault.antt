-- The first fault of zones, by what is found of the first of them: it is here, or it is that of the others.
-- Assumes nothing.
use Rattle.std.specs.Prelude.{Ok, Err}
use mathlib.Core.Path.{◌≡◌}
use mathlib.Core.List.{List, [], ◌∷◌, ◌++◌}
use mathlib.Core.Bool.{Bool, true, false}
use Prim.Native.Nat.{ℕ}
use lib.ListN.{length}
use Rattle.types.specs.Verdicts.{refuse, and_then}
use Rattle.types.specs.declared.Refusal.{Refusal}
use Rattle.types.specs.declared.Refusal.TheVariants.{BadZone, TooFewRows}
use Rattle.zones.specs.declared.Zone.{Zone}
use Rattle.zones.specs.Zone.{good_zone}
use Rattle.zones.specs.Faults.{zone_fault}
use Rattle.report.specs.Facts.{end_of}
use Rattle.first_fault.specs.FirstFault.{out_of_rows, fault_after, fault_from, passed_from}

module _ (unit : ℕ) (aggregate : Bool) (cnv_room seq_room : ℕ) (zs : List Zone) (z : Zone) where
  module _ (rest : List Zone) where
    pub fault_here : {x : Refusal} → fault_after unit aggregate cnv_room seq_room zs z ≡ Err x
        → (fault_from unit aggregate cnv_room seq_room zs (z ∷ rest) ≡ Err x) × (passed_from unit aggregate cnv_room seq_room zs (z ∷ rest) ≡ zs)
    unfolding fault_from passed_from and_then
    fault_here e = (rw e, rw e)

    pub fault_later : fault_after unit aggregate cnv_room seq_room zs z ≡ Ok tt
        → (fault_from unit aggregate cnv_room seq_room zs (z ∷ rest) ≡ fault_from unit aggregate cnv_room seq_room (zs ++ (z ∷ [])) rest)
        × (passed_from unit aggregate cnv_room seq_room zs (z ∷ rest) ≡ passed_from unit aggregate cnv_room seq_room (zs ++ (z ∷ [])) rest)
    unfolding fault_from passed_from and_then
    fault_later e = (rw e, rw e)

  pub after_bad : good_zone unit (end_of 0 zs) z ≡ false
      → fault_after unit aggregate cnv_room seq_room zs z ≡ Err (BadZone (length zs) (zone_fault unit (end_of 0 zs) z))
  unfolding fault_after refuse
  after_bad bad = rw bad

  pub after-lacks : good_zone unit (end_of 0 zs) z ≡ true → out_of_rows unit aggregate cnv_room seq_room (zs ++ (z ∷ [])) ≡ true
      → fault_after unit aggregate cnv_room seq_room zs z ≡ Err TooFewRows
  unfolding fault_after refuse
  after-lacks good lacking = rw (good, lacking)

  pub after_good : good_zone unit (end_of 0 zs) z ≡ true → out_of_rows unit aggregate cnv_room seq_room (zs ++ (z ∷ [])) ≡ false
      → fault_after unit aggregate cnv_room seq_room zs z ≡ Ok tt
  unfolding fault_after refuse
  after_good good fitting = rw (good, fitting)
