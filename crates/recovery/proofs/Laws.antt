-- Check 9, out and in, and its fault; when a record gives the size; and the recovery table: what it fixes, and that access never rises.
-- Assumes nothing.
use Rattle.std.specs.Prelude.{Some}
use Prim.Native.Nat.{ℕ, ◌+◌, ◌≤◌}
use native.Mathlib.Omega.{arith}
use mathlib.Core.Path.{◌≡◌, refl, ap, ◌∙◌, sym}
use mathlib.Core.List.{[], ◌∷◌}
use mathlib.Core.Bool.{true, false, ◌&&◌}
use borrow.Author.Tests.{le-leb, eq-eqb}
use Rattle.types.specs.declared.Row.{Row}
use Rattle.types.specs.declared.FileKind.{FileKind}
use Rattle.types.specs.declared.FileKind.TheVariants.{Conventional, Sequential}
use Rattle.types.specs.declared.Condition.{Condition}
use Rattle.types.specs.declared.Condition.TheVariants as condition
use Rattle.types.specs.declared.Access.{Access}
use Rattle.types.specs.declared.Access.TheVariants as access
use Rattle.types.specs.declared.ErrorPolicy.{ErrorPolicy}
use Rattle.types.specs.declared.ErrorPolicy.TheVariants.{RemountRo, ZoneRo, ZoneOffline, Repair}
use Rattle.types.specs.declared.ZoneFault.{ZoneFault}
use Rattle.types.specs.Blocks.{bytes_of, block_sectors}
use Rattle.types.specs.Codes.{access_code}
use Rattle.types.proofs.Tests.{both, and_left, and_right}
use Rattle.zones.specs.declared.Zone.{Zone}
use Rattle.zones.specs.Zone.{conventional, sequential, condition_of, healthy, good_record}
use Rattle.zones.specs.Faults.{first_fault, record_tests, record_fault, is_faultless}
use Rattle.zones.specs.Facts.{Bounded, all_passed, First, fault_numbers}
use Rattle.zones.proofs.Laws.{record_bounded}
use Rattle.zones.proofs.Faults.{passed_on, found_first, first_fault_lem, both_passed, none_fails, passed_after, passed_after_lem, record_passed, record_faultless}
use Rattle.recovery.specs.declared.grid.SizeRule.TheVariants.{Fixed}
use Rattle.recovery.specs.declared.grid.AccessRule.{AccessRule}
use Rattle.recovery.specs.declared.grid.AccessRule.TheVariants as rule
use Rattle.recovery.specs.Grid.{recovery_grid, rule_of}
use Rattle.recovery.specs.Fits.{matches_sequential, within_conventional, of_file, no_better, record_fits, file_tests, fit_tests, misfit}
use Rattle.recovery.specs.Recovery.{recovery_rule, ruled_access}
use Rattle.recovery.specs.Facts.{Fitting, Sizing}

-- 9

module _ (block : ℕ) (r : Row) (z : Zone) where
  -- what fits a sequential file
  pub sequential_fits : good_record (block_sectors block) z ≡ true → sequential z ≡ true → z.start ≡ r.start → bytes_of z.capacity ≡ r.capacity
      → no_better Sequential r z ≡ true → record_fits block Sequential r z ≡ true
  unfolding record_fits matches_sequential
  sequential_fits good type start capacity worse =
      both (both good (both (both type (eq-eqb z.start r.start start)) (eq-eqb (bytes_of z.capacity) r.capacity capacity))) worse

  -- what fits a conventional file
  pub conventional_fits : good_record (block_sectors block) z ≡ true → conventional z ≡ true → r.start ≤ z.start
      → bytes_of (z.start + z.length) ≤ bytes_of r.start + r.capacity → record_fits block Conventional r z ≡ true
  unfolding record_fits within_conventional
  conventional_fits good type start end =
      both
      (both good
      (both (both type (le-leb r.start z.start start))
      (le-leb (bytes_of (z.start + z.length)) (bytes_of r.start + r.capacity) end)))
      refl

  -- the order of its tests is that of the numbers
  pub fit_numbers : (k : FileKind) → fault_numbers (fit_tests block k r z) ≡ 2 ∷ 3 ∷ 4 ∷ 5 ∷ 6 ∷ 7 ∷ 8 ∷ 9 ∷ []
  unfolding fault_numbers
  fit_numbers k = refl

  -- what fits is what has no fault
  fit_passed : (k : FileKind) → all_passed (fit_tests block k r z) ≡ record_fits block k r z
  unfolding record_fits passed_after
  fit_passed k =
      both_passed (record_tests (block_sectors block) z) (file_tests k r z)
      ∙ ap (λ g. g && all_passed (file_tests k r z)) (record_passed (block_sectors block) z)
      ∙ passed_after_lem (good_record (block_sectors block) z) (file_tests k r z)

  pub misfit_faultless : (k : FileKind) → is_faultless (misfit block k r z) ≡ record_fits block k r z
  unfolding misfit
  misfit_faultless k = none_fails (fit_tests block k r z) ∙ fit_passed k

  -- the record's own fault, or, where it is good, what is wrong with it as this file's
  pub own_fault : (k : FileKind) → is_faultless (record_fault (block_sectors block) z) ≡ false → misfit block k r z ≡ record_fault (block_sectors block) z
  unfolding misfit record_fault
  own_fault k e = found_first (record_tests (block_sectors block) z) (file_tests k r z) e

  pub own_passed : (k : FileKind) → is_faultless (record_fault (block_sectors block) z) ≡ true → misfit block k r z ≡ first_fault (file_tests k r z)
  unfolding misfit record_fault
  own_passed k good = passed_on (record_tests (block_sectors block) z) (file_tests k r z) (sym (none_fails (record_tests (block_sectors block) z)) ∙ good)

  -- a fault is the first in order: no test before it fails, and its own does
  pub misfit_first : (k : FileKind) (x : ZoneFault) → misfit block k r z ≡ Some x → First x (fit_tests block k r z)
  unfolding misfit
  misfit_first k x e = first_fault_lem x (fit_tests block k r z) e

-- a record without a fault of its own
pub faultless_bounded : (unit : ℕ) (z : Zone) → is_faultless (record_fault unit z) ≡ true → Bounded z
faultless_bounded unit z e = record_bounded unit z (sym (record_faultless unit z) ∙ e)

never : Conventional ≡ Sequential → ⊥
never e = let z : ◌≡◌ {A = ℕ} 0 1 = cc in omega arith

-- a good record of this file's zone
pub fitting : (unit : ℕ) (k : FileKind) (r : Row) (z : Zone) → good_record unit z ≡ true → of_file k r z ≡ true → Fitting k z
unfolding matches_sequential
fitting unit Conventional r z good own = record { bounded = record_bounded unit z good; alike = λ e. absurd (never e) }
fitting unit Sequential r z good own =
    let type : sequential z ≡ true = search (and_left, and_right) depth 9 in
    record { bounded = record_bounded unit z good; alike = λ e. type }

pub faultless_fitting : (block : ℕ) (k : FileKind) (r : Row) (z : Zone) → is_faultless (misfit block k r z) ≡ true → Fitting k z
unfolding record_fits
faultless_fitting block k r z e =
    let fits : record_fits block k r z ≡ true = sym (misfit_faultless block r z k) ∙ e in
    let own = and_left (good_record (block_sectors block) z && of_file k r z) (no_better k r z) fits in
    fitting (block_sectors block) k r z (and_left (good_record (block_sectors block) z) (of_file k r z) own)
    (and_right (good_record (block_sectors block) z) (of_file k r z) own)

pub own_fitting : (block : ℕ) (k : FileKind) (r : Row) (z : Zone) → is_faultless (record_fault (block_sectors block) z) ≡ true
    → is_faultless (first_fault (file_tests k r z)) ≡ true → Fitting k z
own_fitting block k r z own e = faultless_fitting block k r z (ap is_faultless (own_passed block r z k own) ∙ e)

-- one that is healthy gives the file's size
pub sizing : (k : FileKind) (z : Zone) → Fitting k z → healthy z ≡ true → Sizing k z
sizing k z w h = record { bounded = w.bounded; saying = λ e. both (w.alike e) h }

-- THE TABLE

only_healthy : (p : ErrorPolicy) (c : Condition) → (rule_of recovery_grid p c).size ≡ Fixed → c ≡ condition.Healthy
only_healthy p condition.Healthy e = refl
only_healthy RemountRo condition.ReadOnly e = cc
only_healthy RemountRo condition.Offline e = cc
only_healthy ZoneRo condition.ReadOnly e = cc
only_healthy ZoneRo condition.Offline e = cc
only_healthy ZoneOffline condition.ReadOnly e = cc
only_healthy ZoneOffline condition.Offline e = cc
only_healthy Repair condition.ReadOnly e = cc
only_healthy Repair condition.Offline e = cc

-- a size is fixed only by a healthy record
pub fixed_healthy : (p : ErrorPolicy) (z : Zone) → (recovery_rule p z).size ≡ Fixed → healthy z ≡ true
fixed_healthy p z e = rw (only_healthy p (condition_of z) e)

-- "Access never rises."
pub access_falls : (u : AccessRule) (a : Access) → access_code (ruled_access u a) ≤ access_code a
access_falls rule.Unchanged a = omega arith
access_falls rule.Read access.Nothing = omega arith
access_falls rule.Read access.Read = omega arith
access_falls rule.Read access.Write = omega arith
access_falls rule.Nothing a = omega arith
