-- What is received stays within its bounds, byte after byte.
-- Assumes nothing.
use Rattle.std.specs.Prelude.{Ok, Err}
use Prim.Native.Nat.{ℕ, ◌+◌, ◌<◌}
use native.Mathlib.Omega.{arith}
use mathlib.Core.Path.{◌≡◌}
use mathlib.Core.Bool.{Bool, true, false, cond}
use mathlib.Core.List.{List, [], ◌∷◌}
use borrow.Author.Tests.{leb-false, le-leb, eqb-true, eqb-false}
use lib.Dec.{eqb, leb}
use lib.ListN.{set}
use Rattle.types.specs.Answers.{Verdict}
use Rattle.types.proofs.Tests.{cases}
use Rattle.zones.specs.Zone.{zone_at}
use Rattle.intake.specs.declared.Rule.{Rule}
use Rattle.intake.specs.declared.Intake.{Intake}
use Rattle.intake.specs.Steps.{Taking}
use Rattle.intake.specs.Facts.{BoundedIntake}
use Rattle.intake.proofs.Bounds.{nothing_bounded, refused_bounded, header_bounded, zone_kept}
use Rattle.receiving.specs.Bytes.{Receiving, unit_bytes, complete, unit_taken, wholly, nothing_received, collected, byte_after, byte_taken, fed}
use Rattle.receiving.specs.Facts.{BoundedReceived}

-- A HEADER OR ZONE

-- where one comes next and the header has been, a zone is to come
to_come : (i : Intake) → complete i ≡ false → eqb i.count 0 ≡ false → i.walk.number < i.count
to_come i next known =
    let some : leb 1 i.count ≡ true = le-leb 1 i.count (omega (arith, eqb-false i.count 0 known)) in
    leb-false i.count i.walk.number (rw some at next)

pub unit_bounded : (r : Rule) (s : Taking) (b : List ℕ) → BoundedIntake s.intake → complete s.intake ≡ false → BoundedIntake (unit_taken r s b).intake
unfolding unit_taken
unit_bounded r s b bounded next =
    cases (eqb s.intake.count 0)
    (λ none. rw none (header_bounded s.intake b (eqb-true s.intake.count 0 none) bounded))
    (λ known. rw known (zone_kept r s (zone_at s.intake.given b 0) (bounded, to_come s.intake next known)).0)

-- after it nothing of the next is there
pub wholly_bounded : (i : Intake) → BoundedIntake i → BoundedReceived (wholly i)
wholly_bounded i b = record { intake = b; held = some (eqb i.count 0) }
  where
    some : (t : Bool) → 0 < cond t 16 64
    some true = omega arith
    some false = omega arith

-- BYTES

pub nothing_received_lem : BoundedReceived nothing_received
nothing_received_lem = wholly_bounded _ nothing_bounded

module _ (r : Rule) (s : Receiving) (b : BoundedReceived s.received) where
  collected_bounded : (part : List ℕ) → complete s.received.intake ≡ false → BoundedReceived (collected r s part (s.received.held + 1)).received
  unfolding collected
  collected_bounded part next =
      let i = s.received.intake in
      let held = s.received.held + 1 in
      cases (eqb held (unit_bytes i))
      (λ all. rw all (wholly_bounded _ (unit_bounded r (record { intake = i; cnv = s.cnv; seq = s.seq }) part b.intake next)))
      (λ fewer. rw fewer (record { intake = b.intake; held = omega (arith, b.held, eqb-false held (unit_bytes i) fewer) }))

  passed_bounded : (c : ℕ) → BoundedReceived (byte_after (Ok tt) r s c).received
  passed_bounded c =
      cases (complete s.received.intake)
      (λ all. rw all (record { intake = refused_bounded s.received.intake _ b.intake; held = b.held }))
      (λ next. rw next (collected_bounded (set s.received.part s.received.held c) next))

  byte_bounded : (c : ℕ) → BoundedReceived (byte_taken r s c).received
  unfolding byte_taken
  byte_bounded c = by s.received.intake.check
    where
      by : (v : Verdict) → BoundedReceived (byte_after v r s c).received
      by (Ok tt) = passed_bounded c
      by (Err x) = b

pub fed_bounded : (r : Rule) (s : Receiving) (bytes : List ℕ) → BoundedReceived s.received → BoundedReceived (fed r s bytes).received
unfolding fed
fed_bounded r s [] b = b
fed_bounded r s (c ∷ cs) b = fed_bounded r (byte_taken r s c) cs (byte_bounded r s b c)
