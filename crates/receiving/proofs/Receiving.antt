-- A piece as the code takes it: what is missing of an unfinished header or zone, the zones that are whole, and what is left.
-- Assumes nothing.
use Rattle.std.specs.Prelude.{Ok}
use Prim.Native.Nat.{ℕ, ◌+◌, ◌-◌, ◌≤◌, ◌<◌}
use native.Mathlib.Omega.{arith}
use native.Mathlib.Nat.{le_of_eq}
use mathlib.Core.Path.{◌≡◌, sym, ap, ◌∙◌}
use mathlib.Core.Bool.{true}
use mathlib.Core.List.{List}
use lib.ListN.{length, take, drop, take-append-drop, length-drop}
use lib.Seq.{take_all}
use Rattle.zones.specs.Zone.{zone_bytes}
use Rattle.intake.specs.declared.Rule.{Rule}
use Rattle.intake.specs.declared.Intake.{Intake}
use Rattle.intake.specs.Facts.{BoundedIntake}
use Rattle.receiving.specs.declared.Received.{Received}
use Rattle.receiving.specs.Bytes.{Receiving, wholly, between, fed}
use Rattle.receiving.specs.Facts.{BoundedReceived, goes_on, JustTaken}
use Rattle.receiving.proofs.Feeding.{fed_join}
use Rattle.receiving.proofs.Bounds.{fed_bounded}
use Rattle.receiving.proofs.Adding.{just_taken}

-- what is bounded stays so
pub first_bounded : (r : Rule) (s : Receiving) (cs : List ℕ) {x : Received} {cnv seq : List ℕ} → BoundedReceived s.received
    → fed r s cs ≡ record { received = x; cnv = cnv; seq = seq } → BoundedIntake x.intake
first_bounded r s cs b e = rw e at (fed_bounded r s cs b).intake

-- what is left of a piece from a place on
pub from_there : (b : List ℕ) (at : ℕ) → take (length b - at) (drop at b) ≡ drop at b
from_there b at = take_all (length b - at) (drop at b) (le_of_eq (length-drop at b))

module _ (r : Rule) (s : Receiving) (b : List ℕ) (used : ℕ) {x : Received} {cnv seq : List ℕ}
    (first : fed r s (take used b) ≡ record { received = x; cnv = cnv; seq = seq }) where
  -- the first part was all of it
  pub receive_first : length b ≤ used → fed r s b ≡ record { received = x; cnv = cnv; seq = seq }
  receive_first all = ap (fed r s) (sym (take_all used b all)) ∙ first

  module _ (j : JustTaken x) (i : Intake) (cnv' seq' : List ℕ) (at : ℕ)
      (whole : fed r (between (record { intake = i; cnv = cnv'; seq = seq' })) (drop at b) ≡ fed r (between (record { intake = x.intake; cnv = cnv; seq = seq })) (drop used b)) where
    -- so the rest does what all would
    pub receive_rest : fed r s b ≡ fed r (between (record { intake = i; cnv = cnv'; seq = seq' })) (drop at b)
    receive_rest =
        ap (fed r s) (sym (take-append-drop used b))
        ∙ fed_join r s (take used b) (drop used b)
        ∙ ap (λ (t : Receiving). fed r t (drop used b)) first
        ∙ ap (λ (y : Received). fed r (record { received = y; cnv = cnv; seq = seq }) (drop used b)) j.whole
        ∙ sym whole

    -- and it is all used
    pub receive_last : {y z : Received} {cnv'' seq'' : List ℕ} (used' : ℕ) → y ≡ wholly i
        → (goes_on i ≡ true → length b < at + zone_bytes)
        → ((x.intake.check ≡ Ok tt → 1 ≤ x.intake.count) → i.check ≡ Ok tt → 1 ≤ i.count)
        → fed r (record { received = y; cnv = cnv'; seq = seq' }) (take used' (take (length b - at) (drop at b))) ≡ record { received = z; cnv = cnv''; seq = seq'' }
        → ((goes_on y.intake ≡ true → length (take (length b - at) (drop at b)) < zone_bytes) → JustTaken y → used' ≡ length (take (length b - at) (drop at b)))
        → fed r s b ≡ record { received = z; cnv = cnv''; seq = seq'' }
    receive_last {y} {z} {cnv''} {seq''} used' e done counted last all =
        let left : List ℕ = take (length b - at) (drop at b) in
        let long : length left ≡ length b - at = ap length (from_there b at) ∙ length-drop at b in
        let now : y.intake ≡ i = ap (λ (w : Received). w.intake) e in
        let short : goes_on y.intake ≡ true → length left < zone_bytes = (λ g. let few = done (sym (ap goes_on now) ∙ g) in omega (arith, few, long)) in
        let used = all short (just_taken i y e (counted j.counted)) in
        receive_rest
        ∙ ap (fed r (between (record { intake = i; cnv = cnv'; seq = seq' }))) (sym (take_all used' left (le_of_eq (sym used)) ∙ from_there b at))
        ∙ ap (λ (w : Received). fed r (record { received = w; cnv = cnv'; seq = seq' }) (take used' left)) (sym e)
        ∙ last
