-- Bytes that are added to those which are there of the next header or zone: as many as are missing, or all that came.
-- Assumes nothing.
use Rattle.std.specs.Prelude.{Ok, Err}
use Prim.Native.Nat.{ℕ, ◌+◌, ◌-◌, ◌≤◌, ◌<◌, min}
use native.Mathlib.Omega.{arith}
use mathlib.Core.Path.{◌≡◌, refl, sym, ap, subst, ◌∙◌}
use mathlib.Core.Bool.{Bool, true, false, cond}
use mathlib.Core.List.{List, [], ◌∷◌}
use lib.Dec.{eqb, ltb}
use lib.ListN.{length, take, length-take}
use lib.Seq.{sets, take_all}
use borrow.Author.Tests.{eqb-false, ne_eqb, lt-ltb}
use Rattle.types.specs.declared.Refusal.{Refusal}
use Rattle.zones.specs.Zone.{zone_bytes, zone_at}
use Rattle.report.specs.Report.{header_bytes}
use Rattle.intake.specs.declared.Rule.{Rule}
use Rattle.intake.specs.declared.Intake.{Intake}
use Rattle.intake.specs.Steps.{Taking, header_taken, zone_taken}
use Rattle.intake.specs.Facts.{BoundedIntake}
use Rattle.intake.proofs.Bounds.{header-counts, zone_kept}
use Rattle.receiving.specs.declared.Received.{Received}
use Rattle.receiving.specs.Bytes.{Receiving, unit_bytes, complete, unit_taken, wholly, extra_byte, between, fed}
use Rattle.receiving.specs.Facts.{BoundedReceived, goes_on, JustTaken}
use Rattle.receiving.proofs.Feeding.{taking_of, with_part, fed_refused, fed-extra, fed_part, fed_unit}
use Rattle.receiving.proofs.Units.{not-complete, goes_on_in}

-- after a header that isn't refused there are zones to come, and a zone leaves their number as it is
pub unit_counts : (r : Rule) (t : Taking) (b : List ℕ) → BoundedIntake t.intake → complete t.intake ≡ false
    → (unit_taken r t b).intake.check ≡ Ok tt → 1 ≤ (unit_taken r t b).intake.count
unfolding unit_taken
unit_counts r t b bounded next passed = by (eqb t.intake.count 0) refl passed
  where
    by : (y : Bool) → eqb t.intake.count 0 ≡ y
        → (cond y (record { intake = header_taken t.intake b; cnv = t.cnv; seq = t.seq }) (zone_taken r t (zone_at t.intake.given b 0))).intake.check ≡ Ok tt
        → 1 ≤ (cond y (record { intake = header_taken t.intake b; cnv = t.cnv; seq = t.seq }) (zone_taken r t (zone_at t.intake.given b 0))).intake.count
    by true none p = header-counts t.intake b p
    by false some p =
        let here = not-complete t.intake next (eqb-false t.intake.count 0 some) in
        omega (arith, here, (zone_kept r t (zone_at t.intake.given b 0) (bounded, here)).1)

pub just_taken : (i : Intake) (x : Received) → x ≡ wholly i → (i.check ≡ Ok tt → 1 ≤ i.count) → JustTaken x
just_taken i x e counted = subst JustTaken (sym e) (record { whole = refl; counted = counted })

-- fewer bytes than a zone's, right after a zone or the header, are all used
rest_used : (x : Received) (n len : ℕ) → n ≡ min (unit_bytes x.intake - x.held) len → x.intake.check ≡ Ok tt → complete x.intake ≡ false
    → (goes_on x.intake ≡ true → len < zone_bytes) → JustTaken x → n ≡ len
rest_used x n len used passed next few j =
    let none : x.held ≡ 0 = ap (λ (y : Received). y.held) j.whole in
    let some : x.intake.count ≡ 0 → ⊥ = (λ q. omega (arith, q, j.counted passed)) in
    let unit : unit_bytes x.intake ≡ zone_bytes = ap (λ (t : Bool). cond t header_bytes zone_bytes) (ne_eqb x.intake.count 0 some) in
    let short = few (goes_on_in x.intake passed (not-complete x.intake next some)) in
    omega (arith, used, none, unit, short)

-- WHAT IT COMES TO: how many were used, and what is there then

abbrev pub Adds : Rule → Receiving → List ℕ → ℕ → Receiving → Type 0
Adds r s b n s' =
    (fed r s (take n b) ≡ s') × ((n ≤ length b) × ((n < length b → JustTaken s'.received) × ((goes_on s.received.intake ≡ true → length b < zone_bytes) → JustTaken s.received → n ≡ length b)))

module _ (r : Rule) (s : Receiving) (b : List ℕ) (n : ℕ) (bounded : BoundedReceived s.received) (passed : s.received.intake.check ≡ Ok tt)
    (next : complete s.received.intake ≡ false) (used : n ≡ min (unit_bytes s.received.intake - s.received.held) (length b)) where
  few : n ≤ length b
  few = omega arith

  -- they are all that was missing
  pub add_last : {part : List ℕ} {i : Intake} {x : Received} {cnv seq : List ℕ} → s.received.held + n ≡ unit_bytes s.received.intake
      → part ≡ sets s.received.part s.received.held (take n b) → unit_taken r (taking_of s) part ≡ record { intake = i; cnv = cnv; seq = seq }
      → x ≡ wholly i → Adds r s b n (record { received = x; cnv = cnv; seq = seq })
  add_last {part} {i} {x} {cnv} {seq} whole put taken e =
      let room = bounded.held in
      let here : unit_taken r (taking_of s) (sets s.received.part s.received.held (take n b)) ≡ record { intake = i; cnv = cnv; seq = seq } =
      ap (unit_taken r (taking_of s)) (sym put) ∙ taken in
      let all : fed r s (take n b) ≡ record { received = wholly i; cnv = cnv; seq = seq } =
      fed_unit r s (take n b) passed next (omega (arith, length-take n b)) (omega (arith, length-take n b)) ∙ ap between here in
      let counted : i.check ≡ Ok tt → 1 ≤ i.count =
      (λ p. subst (λ (t : Taking). 1 ≤ t.intake.count) taken
      (unit_counts r (taking_of s) part bounded.intake next (ap (λ (t : Taking). t.intake.check) taken ∙ p))) in (
        all ∙ ap (λ (y : Received). record { received = y; cnv = cnv; seq = seq }) (sym e),
        (few, ((λ _. just_taken i x e counted), rest_used s.received n (length b) used passed next)),
      )

  -- some are still missing
  pub add_some : {part : List ℕ} → (s.received.held + n ≡ unit_bytes s.received.intake → ⊥)
      → part ≡ sets s.received.part s.received.held (take n b) → Adds r s b n (with_part s part (s.received.held + n))
  add_some {part} short put =
      let room = bounded.held in
      let long : length (take n b) ≡ n = omega (arith, length-take n b) in
      let all : n ≡ length b = omega (arith, short) in (
        fed_part r s (take n b) passed next (omega (arith, short))
            ∙ ap (λ (k : ℕ). with_part s (sets s.received.part s.received.held (take n b)) (s.received.held + k)) long
            ∙ ap (λ (l : List ℕ). with_part s l (s.received.held + n)) (sym put),
        (few, ((λ more. absurd (omega (arith, all))), (λ _ _. all))),
      )

-- NOTHING IS ADDED: all bytes are used after a refusal, and after the last zone
module _ (r : Rule) (s : Receiving) (b : List ℕ) where
  all_used : {s' : Receiving} → fed r s b ≡ s' → Adds r s b (length b) s'
  all_used e = (ap (fed r s) (take_all (length b) b (omega arith)) ∙ e, (omega arith, ((λ more. absurd (omega arith)), (λ _ _. refl))))

  pub add_refused : (x : Refusal) → s.received.intake.check ≡ Err x → Adds r s b (length b) s
  add_refused x refused = all_used (fed_refused r s b x refused)

  pub add-extra : {x : Received} → s.received.intake.check ≡ Ok tt → complete s.received.intake ≡ true
      → x ≡ cond (ltb 0 (length b)) (extra_byte s.received) s.received → Adds r s b (length b) (record { received = x; cnv = s.cnv; seq = s.seq })
  unfolding fed
  add-extra {x} passed done e =
      all_used (by b ∙ ap (λ (y : Received). record { received = y; cnv = s.cnv; seq = s.seq }) (sym e))
    where
      by : (l : List ℕ) → fed r s l ≡ record { received = cond (ltb 0 (length l)) (extra_byte s.received) s.received; cnv = s.cnv; seq = s.seq }
      by [] = refl
      by (c ∷ cs) =
          fed-extra r s (c ∷ cs) passed done (omega arith)
          ∙ ap (λ (t : Bool). record { received = cond t (extra_byte s.received) s.received; cnv = s.cnv; seq = s.seq }) (sym (lt-ltb 0 (length (c ∷ cs)) (omega arith)))
