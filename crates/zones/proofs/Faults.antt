-- The first fault that tests find: it is none exactly if all are passed, and else no test before it fails and its own does. Hence what a good
-- record and a good zone are: those without a fault.
-- Assumes nothing.
use mathlib.Core.Path.{◌≡◌, refl, ap, ◌∙◌, sym}
use mathlib.Core.List.{List, [], ◌∷◌, ◌++◌}
use mathlib.Core.Bool.{Bool, true, false, ◌&&◌, false≢true}
use Prim.Native.Nat.{ℕ}
use Rattle.std.specs.Prelude.{Option, Some, None}
use Rattle.types.proofs.Tests.{and_left, and_right}
use Rattle.types.specs.declared.ZoneFault.{ZoneFault}
use Rattle.zones.specs.declared.Zone.{Zone}
use Rattle.zones.specs.Zone.{starts_at, good_record, good_zone}
use Rattle.zones.specs.Faults.{ZoneTest, test, fault_unless, first_fault, record_tests, zone_tests, record_fault, zone_fault, is_faultless}
use Rattle.zones.specs.Facts.{all_passed, First, fault_numbers}

-- THE ORDER of a zone's tests is that of the numbers
pub zone_numbers : (unit e : ℕ) (z : Zone) → fault_numbers (zone_tests unit e z) ≡ 1 ∷ 2 ∷ 3 ∷ 4 ∷ 5 ∷ 6 ∷ 7 ∷ []
unfolding fault_numbers
zone_numbers unit e z = refl

-- THE FIRST

none_some : {x : ZoneFault} → ◌≡◌ {A = Option ZoneFault} None (Some x) → ⊥
none_some {x} e = false≢true (sym (ap is_faultless e))

-- tests that are passed find nothing
pub passed_on : (a b : List ZoneTest) → all_passed a ≡ true → first_fault (a ++ b) ≡ first_fault b
unfolding all_passed first_fault fault_unless
passed_on [] b e = refl
passed_on (t ∷ ts) b e = rw (and_left t.passed (all_passed ts) e) (passed_on ts b (and_right t.passed (all_passed ts) e))

-- what tests find stands, whatever comes after them
pub found_first : (a b : List ZoneTest) → is_faultless (first_fault a) ≡ false → first_fault (a ++ b) ≡ first_fault a
unfolding first_fault fault_unless
found_first [] b e = absurd (false≢true (sym e))
found_first (t ∷ ts) b e = by t.passed (found_first ts b) e
  where
    by : (p : Bool) → (is_faultless (first_fault ts) ≡ false → first_fault (ts ++ b) ≡ first_fault ts)
        → is_faultless (fault_unless p t.fault (first_fault ts)) ≡ false
        → fault_unless p t.fault (first_fault (ts ++ b)) ≡ fault_unless p t.fault (first_fault ts)
    by true rest e = rest e
    by false rest e = refl

-- one that is not none
pub some_fault : (o : Option ZoneFault) → is_faultless o ≡ false → (x : ZoneFault) × (o ≡ Some x)
some_fault None e = absurd (false≢true (sym e))
some_fault (Some x) e = (x, refl)

-- A FAULT IS THE FIRST IN ORDER: no test before its own fails, and its own does
pub first_fault_lem : (x : ZoneFault) (ts : List ZoneTest) → first_fault ts ≡ Some x → First x ts
unfolding first_fault fault_unless all_passed
first_fault_lem x [] e = absurd (none_some e)
first_fault_lem x (t ∷ ts) e = by t.passed t.fault (first_fault_lem x ts) e
  where
    by : (p : Bool) (y : ZoneFault) → (first_fault ts ≡ Some x → First x ts)
        → fault_unless p y (first_fault ts) ≡ Some x → First x (test p y ∷ ts)
    by true y rest e =
        let f = rest e in
        record { before = test true y ∷ f.before; after = f.after; order = ap (λ l. test true y ∷ l) f.order; passed = f.passed }
    by false y rest e = record { before = []; after = ts; order = ap (λ u. test false u ∷ ts) cc; passed = refl }

-- and the first in order is the fault
pub first_found : (x : ZoneFault) (ts : List ZoneTest) → First x ts → first_fault ts ≡ Some x
unfolding first_fault fault_unless
first_found x ts f = ap first_fault f.order ∙ passed_on f.before (test false x ∷ f.after) f.passed

-- both of two lists are passed
pub both_passed : (a b : List ZoneTest) → all_passed (a ++ b) ≡ all_passed a && all_passed b
unfolding all_passed
both_passed [] b = refl
both_passed (t ∷ ts) b = by t.passed (both_passed ts b)
  where
    by : (p : Bool) → all_passed (ts ++ b) ≡ all_passed ts && all_passed b → p && all_passed (ts ++ b) ≡ p && all_passed ts && all_passed b
    by true rest = rest
    by false rest = refl

-- NO FAULT

-- there is none exactly if all are passed
pub none_fails : (ts : List ZoneTest) → is_faultless (first_fault ts) ≡ all_passed ts
unfolding first_fault fault_unless all_passed
none_fails [] = refl
none_fails (t ∷ ts) = by t.passed (none_fails ts)
  where
    by : (p : Bool) → is_faultless (first_fault ts) ≡ all_passed ts → is_faultless (fault_unless p t.fault (first_fault ts)) ≡ p && all_passed ts
    by true rest = rest
    by false rest = refl

-- GOOD INPUT is what has no fault

-- that all are passed, said as good input is: one test after the other is added to those before
unfoldable pub passed_after : Bool → List ZoneTest → Bool
passed_after b [] = b
passed_after b (t ∷ ts) = passed_after (b && t.passed) ts

pub passed_after_lem : (b : Bool) (ts : List ZoneTest) → b && all_passed ts ≡ passed_after b ts
unfolding all_passed passed_after
passed_after_lem true [] = refl
passed_after_lem false [] = refl
passed_after_lem b (t ∷ ts) = by b ∙ passed_after_lem (b && t.passed) ts
  where
    by : (b : Bool) → b && (t.passed && all_passed ts) ≡ b && t.passed && all_passed ts
    by true = refl
    by false = refl

pub record_passed : (unit : ℕ) (z : Zone) → all_passed (record_tests unit z) ≡ good_record unit z
unfolding all_passed good_record passed_after
record_passed unit z = passed_after_lem true (record_tests unit z)

pub record_faultless : (unit : ℕ) (z : Zone) → is_faultless (record_fault unit z) ≡ good_record unit z
unfolding record_fault
record_faultless unit z = none_fails (record_tests unit z) ∙ record_passed unit z

pub zone_faultless : (unit e : ℕ) (z : Zone) → is_faultless (zone_fault unit e z) ≡ good_zone unit e z
unfolding zone_fault good_zone all_passed
zone_faultless unit e z = none_fails (zone_tests unit e z) ∙ ap (λ g. starts_at e z && g) (record_passed unit z)

-- what is told by the code's test of a fault that was found, where no fault means `good`
pub tested : {x y : Option ZoneFault} {good answer t : Bool} → is_faultless y ≡ good → x ≡ y → answer ≡ is_faultless x → answer ≡ t → good ≡ t
tested law found made so = sym law ∙ ap is_faultless (sym found) ∙ sym made ∙ so
