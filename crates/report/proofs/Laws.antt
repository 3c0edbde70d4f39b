-- What a good header and a good report tell, and the zones of a report one by one.
-- Assumes nothing.
use Rattle.std.specs.Prelude.{Ok, Err}
use mathlib.Core.Path.{◌≡◌, refl, ap, ◌∙◌}
use mathlib.Core.List.{List, [], ◌∷◌}
use mathlib.Core.Bool.{true, false, not}
use Prim.Native.Nat.{ℕ, zero, suc, ◌+◌, ◌*◌, ◌≤◌, ◌<◌}
use native.Mathlib.Omega.{arith}
use native.Mathlib.Numerals.{add-one}
use native.Mathlib.Nat.{add-zero, zero-add}
use borrow.Author.Tests.{leb-true, eqb-true, not-false}
use lib.ListN.{length, drop, drop_of_length-le}
use lib.Dec.{leb, eqb}
use Rattle.types.specs.Blocks.{most_zones}
use Rattle.types.specs.Verdicts.{refuse}
use Rattle.types.specs.declared.Refusal.TheVariants.{BadReport, BadZone}
use Rattle.types.proofs.Tests.{and_left, and_right}
use Rattle.types.proofs.VerdictLaws.{check_passed, check_passes}
use Rattle.zones.specs.declared.Zone.{Zone}
use Rattle.zones.specs.Zone.{zone_bytes, good_zone}
use Rattle.zones.specs.Faults.{zone_fault}
use Rattle.zones.specs.Facts.{AllBounded}
use Rattle.zones.proofs.Laws.{zone-told, zone_bounded}
use Rattle.report.specs.Report.{header_bytes, zone_count, good_header, report_zone, zones_from, zones_of, zones_check, report_check}
use Rattle.report.specs.Facts.{Framed}

-- A HEADER

pub framed : (b : List ℕ) → good_header b ≡ true → Framed b
unfolding good_header
framed b h =
    let some : leb 1 (zone_count b) ≡ true = search (and_left, and_right) depth 9 in
    let few : leb (zone_count b) most_zones ≡ true = search (and_left, and_right) depth 9 in
    let whole : eqb (length b) (header_bytes + zone_bytes * zone_count b) ≡ true = search (and_left, and_right) depth 9 in
    record { some = leb-true _ _ some; few = leb-true _ _ few; whole = eqb-true _ _ whole }

-- ITS ZONES

from_length : (n : ℕ) (b : List ℕ) (i : ℕ) → length (zones_from n b i) ≡ n
unfolding zones_from
from_length zero b i = refl
from_length (suc n) b i = ap suc (from_length n b (i + 1))

pub zones_length : (b : List ℕ) → length (zones_of b) ≡ zone_count b
unfolding zones_of
zones_length b = from_length (zone_count b) b 0

from_next : (n k : ℕ) (b : List ℕ) (i : ℕ) → k < n → drop k (zones_from n b i) ≡ report_zone b (i + k) ∷ drop (suc k) (zones_from n b i)
unfolding zones_from
from_next zero k b i h = absurd (omega arith)
from_next (suc n) zero b i h = rw (add-zero i)
from_next (suc n) (suc k) b i h =
    let there : i + 1 + k ≡ i + suc k = omega arith in
    from_next n k b (i + 1) (omega arith) ∙ ap (λ (j : ℕ). report_zone b j ∷ drop (suc k) (zones_from n b (i + 1))) there

-- the zones from number i on are the one of that number, and those from i + 1 on
pub zones_next : (b : List ℕ) (i : ℕ) (z : Zone) → z ≡ report_zone b i → i < zone_count b → drop i (zones_of b) ≡ z ∷ drop (i + 1) (zones_of b)
unfolding zones_of
zones_next b i z e h = rw (e, add-one) (from_next (zone_count b) i b 0 h ∙ ap (λ (j : ℕ). report_zone b j ∷ drop (suc i) (zones_from (zone_count b) b 0)) (zero-add i))

-- no zone is left
pub zones_done : (b : List ℕ) (i : ℕ) → zone_count b ≤ i → drop i (zones_of b) ≡ []
zones_done b i h = drop_of_length-le (zones_of b) {i = i} (omega (arith, zones_length b))

-- THE CHECK OF A ZONE, where `l` are the zones from it on

pub check_good : (unit n e : ℕ) (z : Zone) (zs l : List Zone) → l ≡ z ∷ zs → good_zone unit e z ≡ true
    → zones_check unit n e l ≡ zones_check unit (n + 1) (z.start + z.length) zs
unfolding zones_check refuse
check_good unit n e z zs l q g = rw (q, g)

pub check_bad : (unit n e : ℕ) (z : Zone) (zs l : List Zone) → l ≡ z ∷ zs → good_zone unit e z ≡ false
    → zones_check unit n e l ≡ Err (BadZone n (zone_fault unit e z))
unfolding zones_check refuse
check_bad unit n e z zs l q g = rw (q, g)

pub check_done : (unit n e : ℕ) (l : List Zone) → l ≡ [] → zones_check unit n e l ≡ Ok tt
unfolding zones_check
check_done unit n e l q = rw q

-- GOOD ZONES

-- every zone is good where the one before it ended
unfoldable pub AllGood : ℕ → ℕ → List Zone → Type 0
AllGood unit e [] = Unit
AllGood unit e (z ∷ zs) = (good_zone unit e z ≡ true) × AllGood unit (z.start + z.length) zs

pub all_bounded : (unit e : ℕ) (zs : List Zone) → AllGood unit e zs → AllBounded e zs
unfolding AllGood AllBounded
all_bounded unit e [] h = tt
all_bounded unit e (z ∷ zs) h = ((zone-told unit e z h.0).0, zone_bounded unit e z h.0, all_bounded unit (z.start + z.length) zs h.1)

-- the check finds nothing exactly where all are good
zones_told : (unit n e : ℕ) (zs : List Zone) → zones_check unit n e zs ≡ Ok tt → AllGood unit e zs
unfolding zones_check AllGood
zones_told unit n e [] h = tt
zones_told unit n e (z ∷ zs) h =
    let p = check_passed (BadZone n (zone_fault unit e z)) h in
    (not-false (good_zone unit e z) p.0, zones_told unit (n + 1) (z.start + z.length) zs p.1)

zones_good : (unit n e : ℕ) (zs : List Zone) → AllGood unit e zs → zones_check unit n e zs ≡ Ok tt
unfolding zones_check AllGood
zones_good unit n e [] h = refl
zones_good unit n e (z ∷ zs) h = check_passes (BadZone n (zone_fault unit e z)) (ap not h.0) (zones_good unit (n + 1) (z.start + z.length) zs h.1)

-- A REPORT

-- what a good report tells, and the other way round
pub record GoodReport (unit : ℕ) (b : List ℕ) : Type 0 where
  pub header : good_header b ≡ true
  pub zones : AllGood unit 0 (zones_of b)

pub report-told : (unit : ℕ) (b : List ℕ) → report_check unit b ≡ Ok tt → GoodReport unit b
unfolding report_check
report-told unit b h =
    let p = check_passed BadReport h in
    record { header = not-false (good_header b) p.0; zones = zones_told unit 0 0 (zones_of b) p.1 }

pub report_good : (unit : ℕ) (b : List ℕ) → GoodReport unit b → report_check unit b ≡ Ok tt
unfolding report_check
report_good unit b g = check_passes BadReport (ap not g.header) (zones_good unit 0 0 (zones_of b) g.zones)
