-- What tells whether a header, a zone or nothing comes next.
-- Assumes nothing.
use Rattle.std.specs.Prelude.{Ok, Err}
use Prim.Native.Nat.{ℕ, ◌≤◌, ◌<◌}
use native.Mathlib.Omega.{arith}
use mathlib.Core.Path.{◌≡◌, refl, ap, ◌∙◌}
use mathlib.Core.Bool.{Bool, true, false, cond, ◌&&◌}
use lib.Dec.{eqb, leb, ltb}
use borrow.Author.Tests.{leb-false, ltb-true, le-leb, lt-ltb}
use Rattle.types.specs.Answers.{Verdict}
use Rattle.types.proofs.Tests.{and_left, and_right}
use Rattle.zones.specs.Zone.{zone_bytes}
use Rattle.report.specs.Report.{header_bytes}
use Rattle.intake.specs.declared.Intake.{Intake}
use Rattle.receiving.specs.Bytes.{unit_bytes, complete}
use Rattle.receiving.specs.Facts.{is_passed, goes_on}

-- a zone comes next, once there is a header
pub not-complete : (i : Intake) → complete i ≡ false → (i.count ≡ 0 → ⊥) → i.walk.number < i.count
not-complete i h some =
    let counted : leb 1 i.count ≡ true = le-leb 1 i.count (omega (arith, some)) in
    omega (arith, leb-false i.count i.walk.number (rw counted at h))

-- a header or zone has 64 bytes at most
pub unit_few : (i : Intake) → unit_bytes i ≤ zone_bytes
unit_few i = by (eqb i.count 0)
  where
    by : (t : Bool) → cond t header_bytes zone_bytes ≤ zone_bytes
    by true = omega arith
    by false = omega arith

-- a zone is to come, and nothing was refused: what tells so, and what it tells

pub goes_on_in : (i : Intake) → i.check ≡ Ok tt → i.walk.number < i.count → goes_on i ≡ true
goes_on_in i passed here = ap (λ (v : Verdict). is_passed v && ltb i.walk.number i.count) passed ∙ lt-ltb i.walk.number i.count here

passed_told : (v : Verdict) → is_passed v ≡ true → v ≡ Ok tt
passed_told (Ok tt) h = refl
passed_told (Err x) h = let z : ◌≡◌ {A = ℕ} 0 1 = cc in absurd (omega arith)

pub goes_on-told : (i : Intake) → goes_on i ≡ true → (i.check ≡ Ok tt) × (i.walk.number < i.count)
goes_on-told i h =
    let n = i.walk.number in
    (passed_told i.check (and_left (is_passed i.check) (ltb n i.count) h), ltb-true n i.count (and_right (is_passed i.check) (ltb n i.count) h))
