-- The zones that are whole in a piece, taken where they stand: the bytes that are left do what all did.
-- Assumes nothing.
use Rattle.std.specs.Prelude.{Ok}
use Prim.Native.Nat.{ℕ, ◌+◌, ◌-◌, ◌≤◌, ◌<◌}
use native.Mathlib.Omega.{arith}
use native.Mathlib.Decide.{ℕ_discrete}
use mathlib.Core.Path.{◌≡◌, refl, sym, ap, ◌∙◌}
use mathlib.Core.Bool.{Bool, true, false, ◌&&◌}
use mathlib.Core.List.{List, []}
use lib.Dec.{eqb, leb}
use lib.ListN.{length, drop, drop_of_length-le}
use borrow.Author.Tests.{leb-true, leb-false, ne_eqb, lt-leb}
use Rattle.types.proofs.Tests.{and_left, and_right}
use Rattle.zones.specs.declared.Zone.{Zone}
use Rattle.zones.specs.Zone.{zone_bytes, zone_at}
use Rattle.intake.specs.declared.Rule.{Rule}
use Rattle.intake.specs.declared.Intake.{Intake}
use Rattle.intake.specs.Steps.{Taking, zone_taken}
use Rattle.intake.specs.Facts.{BoundedIntake, Ready}
use Rattle.intake.proofs.Bounds.{zone_kept}
use Rattle.receiving.specs.Bytes.{Receiving, complete, between, fed}
use Rattle.receiving.specs.Facts.{goes_on}
use Rattle.receiving.proofs.Feeding.{fed-zone}
use Rattle.receiving.proofs.Units.{goes_on-told}

-- THE PASS: it has come to what i says, with these tables, at `at`

pub record Passing (r : Rule) (b : List ℕ) (from : ℕ) (cnv₀ seq₀ : List ℕ) (i₀ : Intake) (cnv seq : List ℕ) (i : Intake) (at : ℕ) : Type 0 where
  pub inside : at ≤ length b
  pub bounded : BoundedIntake i
  pub counts : i.count ≡ i₀.count
  pub after : from ≤ at
  pub whole : from < at → from + zone_bytes ≤ at
  pub unmoved : at ≡ from → i ≡ i₀
  pub passed : i.check ≡ Ok tt → i₀.check ≡ Ok tt
  pub cnvs : length cnv ≡ length cnv₀
  pub seqs : length seq ≡ length seq₀
  pub same : fed r (between (record { intake = i; cnv = cnv; seq = seq })) (drop at b)
      ≡ fed r (between (record { intake = i₀; cnv = cnv₀; seq = seq₀ })) (drop from b)

pub passing_begun : (r : Rule) (b : List ℕ) (from : ℕ) (cnv seq : List ℕ) (i : Intake) → BoundedIntake i → from ≤ length b → Passing r b from cnv seq i cnv seq i from
passing_begun r b from cnv seq i bounded inside =
    record { inside = inside; bounded = bounded; counts = refl; after = omega arith; whole = (λ h. absurd (omega arith)); unmoved = (λ _. refl); passed = (λ p. p); cnvs = refl; seqs = refl; same = refl }

module _ {r : Rule} {b : List ℕ} {from : ℕ} {cnv₀ seq₀ : List ℕ} {i₀ : Intake} {cnv seq : List ℕ} {i : Intake} {at : ℕ}
    (so : Passing r b from cnv₀ seq₀ i₀ cnv seq i at) (here : goes_on i && leb zone_bytes (length b - at) ≡ true) where
  on : goes_on i ≡ true
  on = and_left (goes_on i) (leb zone_bytes (length b - at)) here

  pub passing_fits : at + zone_bytes ≤ length b
  passing_fits = let room = leb-true zone_bytes (length b - at) (and_right (goes_on i) (leb zone_bytes (length b - at)) here) in omega arith

  pub passing_ready : Ready i
  passing_ready = (so.bounded, (goes_on-told i on).1)

  pub passing_step : {i' : Intake} {cnv' seq' : List ℕ} (z : Zone) → z ≡ zone_at i.given b at
      → zone_taken r (record { intake = i; cnv = cnv; seq = seq }) z ≡ record { intake = i'; cnv = cnv'; seq = seq' }
      → length cnv' ≡ length cnv → length seq' ≡ length seq → Passing r b from cnv₀ seq₀ i₀ cnv' seq' i' (at + zone_bytes)
  passing_step {i'} {cnv'} {seq'} z read taken cnvs seqs =
      let s : Taking = record { intake = i; cnv = cnv; seq = seq } in
      let told = goes_on-told i on in
      let kept = zone_kept r s z passing_ready in
      let now : (zone_taken r s z).intake ≡ i' = ap (λ (t : Taking). t.intake) taken in
      let some : eqb i.count 0 ≡ false = ne_eqb i.count 0 (λ q. omega (arith, q, told.1)) in
      let left : complete i ≡ false = rw (lt-leb i.count i.walk.number told.1) (last (leb 1 i.count)) in
      record {
        inside = passing_fits;
        bounded = rw now at kept.0;
        counts = sym (ap (λ (j : Intake). j.count) now) ∙ kept.1 ∙ so.counts;
        after = omega (arith, so.after);
        whole = (λ _. omega (arith, so.after));
        unmoved = (λ q. absurd (omega (arith, q, so.after)));
        passed = (λ _. so.passed told.0);
        cnvs = cnvs ∙ so.cnvs;
        seqs = seqs ∙ so.seqs;
        same = sym (fed-zone r s b at told.0 some left passing_fits ∙ ap (λ (t : Taking). fed r (between t) (drop (at + zone_bytes) b)) (ap (zone_taken r s) (sym read) ∙ taken)) ∙ so.same;
      }
    where
      last : (t : Bool) → t && false ≡ false
      last true = refl
      last false = refl

-- no whole zone is left
pub passing_done : (i : Intake) (len at : ℕ) → at ≤ len → goes_on i && leb zone_bytes (len - at) ≡ false → goes_on i ≡ true → len < at + zone_bytes
passing_done i len at inside left on =
    let short = leb-false zone_bytes (len - at) (sym (ap (λ (t : Bool). t && leb zone_bytes (len - at)) on) ∙ left) in
    omega arith

-- it counts some zones, if it did before it
pub passing_counted : {r : Rule} {b : List ℕ} {from : ℕ} {cnv₀ seq₀ : List ℕ} {i₀ : Intake} {cnv seq : List ℕ} {i : Intake} {at : ℕ}
    → Passing r b from cnv₀ seq₀ i₀ cnv seq i at → (i₀.check ≡ Ok tt → 1 ≤ i₀.count) → i.check ≡ Ok tt → 1 ≤ i.count
passing_counted so counted p = let some = counted (so.passed p) in omega (arith, so.counts, some)

-- where one zone at least was there, it was taken
pub passing_moved : {r : Rule} {b : List ℕ} {from : ℕ} {cnv₀ seq₀ : List ℕ} {i₀ : Intake} {cnv seq : List ℕ} {i : Intake} {at : ℕ}
    → Passing r b from cnv₀ seq₀ i₀ cnv seq i at → goes_on i && leb zone_bytes (length b - at) ≡ false
    → goes_on i₀ ≡ true → from + zone_bytes ≤ length b → from + zone_bytes ≤ at
passing_moved {b = b} {from} {i₀ = i₀} {i = i} {at} so left on fits = elim (ℕ_discrete at from) [
  | yes q ↦ let short = passing_done i (length b) at so.inside left (ap goes_on (so.unmoved q) ∙ on) in absurd (omega (arith, q, short))
  | no d ↦ so.whole (omega (arith, so.after, d))
]

-- of one zone's bytes: the zone is taken
pub passing_one : (r : Rule) (t : Taking) (b : List ℕ) (i : Intake) (cnv seq : List ℕ) (at : ℕ) → t.intake.check ≡ Ok tt → (t.intake.count ≡ 0 → ⊥)
    → complete t.intake ≡ false → length b ≡ zone_bytes → at ≡ zone_bytes
    → fed r (between (record { intake = i; cnv = cnv; seq = seq })) (drop at b) ≡ fed r (between t) (drop 0 b)
    → zone_taken r t (zone_at t.intake.given b 0) ≡ record { intake = i; cnv = cnv; seq = seq }
unfolding fed
passing_one r t b i cnv seq at passed some next long end same =
    let s : Receiving = between (record { intake = i; cnv = cnv; seq = seq }) in
    let taken : Receiving = between (zone_taken r t (zone_at t.intake.given b 0)) in
    let none : drop zone_bytes b ≡ [] = drop_of_length-le b {i = zone_bytes} (omega arith) in
    let left : fed r s (drop at b) ≡ s = ap (λ (k : ℕ). fed r s (drop k b)) end ∙ ap (fed r s) none in
    let right : fed r (between t) (drop 0 b) ≡ taken =
    fed-zone r t b 0 passed (ne_eqb t.intake.count 0 some) next (omega arith) ∙ ap (fed r taken) none in
    ap (λ (x : Receiving). record { intake = x.received.intake; cnv = x.cnv; seq = x.seq }) (sym right ∙ sym same ∙ left)
