-- The bad zone of 29 has the lowest number, and of its own tests the reason's is the first that fails.
-- Assumes nothing.
use Rattle.std.specs.Prelude.{Option, Err}
use mathlib.Core.Path.{◌≡◌, refl, ap, subst, ◌∙◌}
use mathlib.Core.List.{List, [], ◌∷◌}
use mathlib.Core.Bool.{Bool, true, false, not}
use Prim.Native.Nat.{ℕ, ◌+◌}
use native.Mathlib.Omega.{arith}
use Rattle.types.specs.Verdicts.{refuse}
use Rattle.types.specs.declared.Refusal.TheVariants.{BadZone}
use Rattle.types.specs.declared.ZoneFault.{ZoneFault}
use Rattle.zones.specs.declared.Zone.{Zone}
use Rattle.zones.specs.Zone.{good_zone}
use Rattle.zones.specs.Faults.{zone_tests, zone_fault}
use Rattle.zones.proofs.Faults.{some_fault, first_fault_lem, zone_faultless}
use Rattle.report.specs.Report.{zones_check}
use Rattle.report.specs.Facts.{end_of, Lowest}
use Rattle.report.proofs.Laws.{check_good}

module _ (unit n e : ℕ) (z : Zone) (zs : List Zone) where
  here : good_zone unit e z ≡ false → Lowest unit n e (z ∷ zs) n (zone_fault unit e z)
  unfolding zones_check end_of zone_fault
  here bad =
      let some = some_fault (zone_fault unit e z) (zone_faultless unit e z ∙ bad) in
      record {
        before = [];
        bad = z;
        after = zs;
        order = refl;
        at = omega arith;
        passed = refl;
        fault = some.0;
        told = some.1;
        because = first_fault_lem some.0 (zone_tests unit e z) some.1;
      }

  later : {number : ℕ} {reason : Option ZoneFault} → good_zone unit e z ≡ true → Lowest unit (n + 1) (z.start + z.length) zs number reason
      → Lowest unit n e (z ∷ zs) number reason
  unfolding end_of
  later good w =
      record {
        before = z ∷ w.before;
        bad = w.bad;
        after = w.after;
        order = ap (λ l. z ∷ l) w.order;
        at = omega (arith, w.at);
        passed = check_good unit n e z w.before _ refl good ∙ w.passed;
        fault = w.fault;
        told = w.told;
        because = w.because;
      }

pub lowest_bad : (unit n e : ℕ) (zs : List Zone) (number : ℕ) (reason : Option ZoneFault) → zones_check unit n e zs ≡ Err (BadZone number reason)
    → Lowest unit n e zs number reason
unfolding zones_check refuse
lowest_bad unit n e [] number reason h = let never : ◌≡◌ {A = ℕ} 0 1 = cc in absurd (omega arith)
lowest_bad unit n e (z ∷ zs) number reason h =
    by (good_zone unit e z) refl (lowest_bad unit (n + 1) (z.start + z.length) zs number reason) h
  where
    by : (t : Bool) → good_zone unit e z ≡ t
        → (zones_check unit (n + 1) (z.start + z.length) zs ≡ Err (BadZone number reason) → Lowest unit (n + 1) (z.start + z.length) zs number reason)
        → refuse (not t) (BadZone n (zone_fault unit e z)) (zones_check unit (n + 1) (z.start + z.length) zs) ≡ Err (BadZone number reason)
        → Lowest unit n e (z ∷ zs) number reason
    by true good rest h = later unit n e z zs good (rest h)
    by false bad rest h =
        let at : n ≡ number = cc in
        let so : zone_fault unit e z ≡ reason = cc in
        subst (λ k. Lowest unit n e (z ∷ zs) k reason) at (subst (Lowest unit n e (z ∷ zs) n) so (here unit n e z zs bad))
