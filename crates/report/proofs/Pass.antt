-- The pass that checks a report's zones: it has come to a walk, and finds what is found from there on.
-- Assumes nothing.
use Rattle.std.specs.Prelude.{Option, Ok, Err}
use mathlib.Core.Path.{◌≡◌, refl, ap, ◌∙◌, sym, subst}
use mathlib.Core.List.{List}
use mathlib.Core.Bool.{Bool, true, false}
use Prim.Native.Nat.{ℕ, ◌≤◌, ◌<◌}
use native.Mathlib.Omega.{arith}
use lib.ListN.{drop}
use Rattle.types.specs.Blocks.{most_zones}
use Rattle.types.specs.declared.Refusal.TheVariants.{BadZone}
use Rattle.types.specs.declared.ZoneFault.{ZoneFault}
use Rattle.zones.specs.declared.Zone.{Zone}
use Rattle.zones.specs.Zone.{good_zone}
use Rattle.zones.specs.Faults.{zone_fault}
use Rattle.zones.proofs.Laws.{zone-told, zone_bounded}
use Rattle.files.specs.declared.Walk.{Walk}
use Rattle.files.specs.Walk.{begun, stepped, walked}
use Rattle.files.specs.Facts.{BoundedWalk}
use Rattle.files.proofs.Walks.{step_number, step_expected, bounded_begun, bounded_step}
use Rattle.report.specs.Report.{zone_count, report_zone, zones_of, zones_check}
use Rattle.report.proofs.Laws.{zones_next, zones_done, check_good, check_bad, check_done}

pub record Checking (unit : ℕ) (aggregate : Bool) (b : List ℕ) (w : Walk) : Type 0 where
  pub inside : w.number ≤ zone_count b
  pub bounded : BoundedWalk w
  pub check : zones_check unit w.number w.expected (drop w.number (zones_of b)) ≡ zones_check unit 0 0 (zones_of b)
  pub walk : walked aggregate w (drop w.number (zones_of b)) ≡ walked aggregate begun (zones_of b)

module _ (unit : ℕ) (aggregate : Bool) (b : List ℕ) where
  pub checking_begun : (w : Walk) → w ≡ begun → Checking unit aggregate b w
  checking_begun w e =
      subst (Checking unit aggregate b) (sym e) (record { inside = omega arith; bounded = bounded_begun; check = refl; walk = refl })

  module _ (w : Walk) (so : Checking unit aggregate b w) where
    -- no zone is left
    pub checking_done : zone_count b ≤ w.number → ((Ok tt) ≡ zones_check unit 0 0 (zones_of b)) × (w ≡ walked aggregate begun (zones_of b))
    unfolding walked
    checking_done h =
        let none = zones_done b w.number h in
        (sym (check_done unit w.number w.expected _ none) ∙ so.check, rw none at so.walk)

    module _ (z : Zone) (read : z ≡ report_zone b w.number) (here : w.number < zone_count b) where
      -- a bad zone ends it
      pub checking_bad : (x : Option ZoneFault) → x ≡ zone_fault unit w.expected z → good_zone unit w.expected z ≡ false
          → Err (BadZone w.number x) ≡ zones_check unit 0 0 (zones_of b)
      checking_bad x e bad =
          ap (λ y. Err (BadZone w.number y)) e
          ∙ sym (check_bad unit w.number w.expected z _ _ (zones_next b w.number z read here) bad)
          ∙ so.check

      -- a good one is taken into the walk
      pub checking_step : (w' : Walk) → zone_count b ≤ most_zones → good_zone unit w.expected z ≡ true → w' ≡ stepped aggregate w z → Checking unit aggregate b w'
      unfolding walked
      checking_step w' few good e =
          let n = step_number aggregate w z in
          let zs = zones_next b w.number z read here in
          let on : Checking unit aggregate b (stepped aggregate w z) =
          record {
            inside = omega arith;
            bounded = bounded_step aggregate w z so.bounded (zone-told unit w.expected z good).0 (zone_bounded unit w.expected z good) (omega arith);
            check = rw (n, step_expected aggregate w z) (sym (check_good unit w.number w.expected z _ _ zs good) ∙ so.check);
            walk = ap (λ (k : ℕ). walked aggregate (stepped aggregate w z) (drop k (zones_of b))) n ∙ ap (walked aggregate w) (sym zs) ∙ so.walk;
          } in
          subst (Checking unit aggregate b) (sym e) on
