-- The zones of a report that are there as a whole are taken one after the other, whatever bytes follow.
-- Assumes nothing.
use Rattle.std.specs.Prelude.{Ok, Err}
use Prim.Native.Nat.{ℕ, zero, suc, ◌+◌, ◌*◌, ◌≤◌, ◌<◌}
use native.Mathlib.Omega.{arith}
use native.Mathlib.Nat.{add-zero}
use mathlib.Core.Path.{◌≡◌, refl, sym, ap, ◌∙◌, subst}
use mathlib.Core.Bool.{Bool, true, false}
use mathlib.Core.List.{List, [], ◌∷◌}
use borrow.Author.Tests.{ne_eqb, lt-leb, le-leb}
use lib.Dec.{eqb, leb}
use lib.ListN.{length, drop}
use Rattle.types.specs.declared.Refusal.{Refusal}
use Rattle.types.specs.Answers.{Verdict}
use Rattle.types.proofs.Tests.{cases}
use Rattle.table.specs.Rows.{rows_lent}
use Rattle.zones.specs.declared.Zone.{Zone}
use Rattle.zones.specs.Zone.{zone_bytes, zone_at, good_zone}
use Rattle.files.proofs.Walks.{step_number}
use Rattle.report.specs.Report.{header_bytes, zone_count, capacity_given, report_zone, zones_from}
use Rattle.intake.specs.declared.Rule.{Rule}
use Rattle.intake.specs.declared.Intake.{Intake}
use Rattle.intake.specs.Steps.{Taking, refused_with, no_row, filed, good_taken, zone_taken}
use Rattle.receiving.specs.Bytes.{complete, between, fed}
use Rattle.receiving.proofs.Feeding.{fed_refused, fed-zone}
use Rattle.first_fault.proofs.Fold.{zone_after, zones_taken}

-- passed or refused
pub verdicts : {X : Type 0} (v : Verdict) → (v ≡ Ok tt → X) → ((x : Refusal) → v ≡ Err x → X) → X
verdicts (Ok tt) f g = f refl
verdicts (Err x) f g = g x refl

pub not_both : {X : Type 0} {v : Verdict} {x : Refusal} → v ≡ Err x → v ≡ Ok tt → X
not_both p q = let z : ◌≡◌ {A = ℕ} 0 1 = cc in absurd (omega arith)

-- WHAT A ZONE LEAVES: what the header says, and unless it is refused the next number

abbrev Next : Intake → Intake → Type 0
Next i j = (j.count ≡ i.count) × (j.given ≡ i.given) × (j.check ≡ Ok tt → j.walk.number ≡ i.walk.number + 1)

refused_next : (i : Intake) (x : Refusal) → Next i (refused_with i x)
refused_next i x = (refl, refl, λ p. not_both refl p)

zone_next : (r : Rule) (s : Taking) (z : Zone) → Next s.intake (zone_taken r s z).intake
unfolding zone_taken good_taken filed
zone_next r s z =
    cases (good_zone r.unit s.intake.walk.expected z)
    (λ good. rw good
    (cases (no_row r.aggregate s.intake.count s.intake.walk z (rows_lent (length s.cnv)) (rows_lent (length s.seq)))
    (λ short. rw short (refused_next s.intake _))
    (λ enough. rw enough (refl, refl, λ p. step_number r.aggregate s.intake.walk z))))
    (λ bad. rw bad (refused_next s.intake _))

-- ZONES ONE AFTER THE OTHER

pub zones_refused : (r : Rule) (t : Taking) (x : Refusal) (zs : List Zone) → t.intake.check ≡ Err x → zones_taken r t zs ≡ t
unfolding zones_taken
zones_refused r t x [] h = refl
zones_refused r t x (z ∷ zs) h = ap (λ (v : Verdict). zones_taken r (zone_after v r t z) zs) h ∙ zones_refused r t x zs h

zones_passed : (r : Rule) (t : Taking) (z : Zone) (zs : List Zone) → t.intake.check ≡ Ok tt → zones_taken r t (z ∷ zs) ≡ zones_taken r (zone_taken r t z) zs
unfolding zones_taken
zones_passed r t z zs h = ap (λ (v : Verdict). zones_taken r (zone_after v r t z) zs) h

-- before zone i of these bytes
pub record Before (b : List ℕ) (t : Taking) (i : ℕ) : Type 0 where
  pub count : t.intake.count ≡ zone_count b
  pub given : t.intake.given ≡ capacity_given b
  pub number : t.intake.check ≡ Ok tt → t.intake.walk.number ≡ i

module _ (r : Rule) (b : List ℕ) (some : 1 ≤ zone_count b) where
  -- where its bytes begin
  abbrev from : ℕ → List ℕ
  from i = drop (header_bytes + zone_bytes * i) b

  -- one zone, where none was refused
  zone-fed : (t : Taking) (i : ℕ) → Before b t i → t.intake.check ≡ Ok tt → i < zone_count b → header_bytes + zone_bytes * (i + 1) ≤ length b
      → fed r (between t) (from i) ≡ fed r (between (zone_taken r t (report_zone b i))) (from (i + 1))
  zone-fed t i so passed here fits =
      let known : eqb t.intake.count 0 ≡ false = ne_eqb t.intake.count 0 (λ q. omega (arith, so.count)) in
      let more : leb t.intake.count t.intake.walk.number ≡ false = lt-leb t.intake.count t.intake.walk.number (omega (arith, so.count, so.number passed)) in
      let one : leb 1 t.intake.count ≡ true = le-leb 1 t.intake.count (omega (arith, so.count)) in
      let next : complete t.intake ≡ false = rw (one, more) in
      let there : header_bytes + zone_bytes * i + zone_bytes ≡ header_bytes + zone_bytes * (i + 1) = omega arith in
      fed-zone r t b (header_bytes + zone_bytes * i) passed known next (omega arith)
      ∙ ap (λ (k : ℕ). fed r (between (zone_taken r t (zone_at t.intake.given b (header_bytes + zone_bytes * i)))) (drop k b)) there
      ∙ ap (λ (g : Bool). fed r (between (zone_taken r t (zone_at g b (header_bytes + zone_bytes * i)))) (from (i + 1))) so.given

  before_next : (t : Taking) (i : ℕ) → Before b t i → t.intake.check ≡ Ok tt → Before b (zone_taken r t (report_zone b i)) (i + 1)
  before_next t i so passed =
      let n = zone_next r t (report_zone b i) in
      record { count = n.0 ∙ so.count; given = n.1 ∙ so.given; number = λ p. n.2 p ∙ ap (λ (k : ℕ). k + 1) (so.number passed) }

  -- n zones
  pub zones_fed : (n i : ℕ) (t : Taking) → Before b t i → i + n ≤ zone_count b → header_bytes + zone_bytes * (i + n) ≤ length b
      → (fed r (between t) (from i) ≡ fed r (between (zones_taken r t (zones_from n b i))) (from (i + n))) × Before b (zones_taken r t (zones_from n b i)) (i + n)
  unfolding zones_from zones_taken
  zones_fed zero i t so inside fits = (ap (λ (k : ℕ). fed r (between t) (from k)) (sym (add-zero i)), subst (Before b t) (sym (add-zero i)) so)
  zones_fed (suc n) i t so inside fits =
      verdicts t.intake.check
      (λ passed.
      let z : Zone = report_zone b i in
      let there : i + 1 + n ≡ i + suc n = omega arith in
      let rest = zones_fed n (i + 1) (zone_taken r t z) (before_next t i so passed) (omega arith) (omega arith) in
      rw (zones_passed r t z (zones_from n b (i + 1)) passed) (
        zone-fed t i so passed (omega arith) (omega arith) ∙ rest.0 ∙ ap (λ (k : ℕ). fed r (between (zones_taken r (zone_taken r t z) (zones_from n b (i + 1)))) (from k)) there,
        subst (Before b (zones_taken r (zone_taken r t z) (zones_from n b (i + 1)))) there rest.1,
      ))
      (λ x refused.
      rw (zones_refused r t x (zones_from (suc n) b i) refused) (
        fed_refused r (between t) (from i) x refused ∙ sym (fed_refused r (between t) (from (i + suc n)) x refused),
        record { count = so.count; given = so.given; number = λ p. not_both refused p },
      ))
