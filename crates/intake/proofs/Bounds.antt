-- What has been taken of a report stays bounded: no sum of its numbers wraps, however the report goes on.
-- Assumes nothing.
use Rattle.std.specs.Prelude.{Ok}
use Prim.Native.Nat.{ℕ, ◌≤◌}
use native.Mathlib.Omega.{arith}
use mathlib.Core.Path.{◌≡◌, refl}
use mathlib.Core.Bool.{Bool, true, false, cond, ◌&&◌}
use mathlib.Core.List.{List}
use lib.Dec.{leb}
use lib.ListN.{length}
use borrow.Author.Tests.{leb-true}
use Rattle.types.specs.Blocks.{most_zones}
use Rattle.types.specs.Codes.{flag_code}
use Rattle.types.specs.declared.Refusal.{Refusal}
use Rattle.types.specs.declared.Refusal.TheVariants.{BadReport}
use Rattle.types.proofs.Tests.{cases, and_left, and_right}
use Rattle.table.specs.Rows.{rows_lent}
use Rattle.account.specs.Account.{is_active}
use Rattle.zones.specs.declared.Zone.{Zone}
use Rattle.zones.specs.Zone.{good_zone}
use Rattle.zones.proofs.Laws.{zone-told, zone_bounded}
use Rattle.files.specs.Files.{seq_row}
use Rattle.files.specs.Walk.{is_seq_file}
use Rattle.files.proofs.Walks.{step_number, step_seqs, bounded_begun, bounded_step}
use Rattle.report.specs.Report.{zone_count, capacity_given, good_fields}
use Rattle.intake.specs.declared.Rule.{Rule}
use Rattle.intake.specs.declared.Intake.{Intake}
use Rattle.intake.specs.Steps.{Taking, nothing_taken, refused_with, header_taken, no_row, filed, good_taken, zone_taken}
use Rattle.intake.specs.Facts.{BoundedIntake, Ready}

pub nothing_bounded : BoundedIntake nothing_taken
nothing_bounded = record { walk = bounded_begun; count = omega arith; number = omega arith; active = omega arith }

-- a refusal changes no number
pub refused_bounded : (i : Intake) (x : Refusal) → BoundedIntake i → BoundedIntake (refused_with i x)
refused_bounded i x b = record { walk = b.walk; count = b.count; number = b.number; active = b.active }

-- A HEADER

-- it counts some zones, but not too many
fields_told : (h : List ℕ) → good_fields h ≡ true → (1 ≤ zone_count h) × (zone_count h ≤ most_zones)
fields_told h good =
    let some : leb 1 (zone_count h) ≡ true = search (and_left, and_right) depth 9 in
    let few : leb (zone_count h) most_zones ≡ true = search (and_left, and_right) depth 9 in
    (leb-true 1 (zone_count h) some, leb-true (zone_count h) most_zones few)

pub header_bounded : (i : Intake) (h : List ℕ) → i.count ≡ 0 → BoundedIntake i → BoundedIntake (header_taken i h)
unfolding header_taken
header_bounded i h none b =
    cases (good_fields h)
    (λ good. rw good (record {
      walk = b.walk;
      count = (fields_told h good).1;
      number = omega (arith, b.number, none);
      active = b.active;
    }))
    (λ bad. rw bad (refused_bounded i BadReport b))

-- where it isn't refused, it counts some zones
pub header-counts : (i : Intake) (h : List ℕ) → (header_taken i h).check ≡ Ok tt → 1 ≤ (header_taken i h).count
unfolding header_taken
header-counts i h passed = by (good_fields h) refl passed
  where
    by : (t : Bool) → good_fields h ≡ t
        → (cond t (record { check = i.check; count = zone_count h; given = capacity_given h; walk = i.walk; active = i.active }) (refused_with i BadReport)).check ≡ Ok tt
        → 1 ≤ (cond t (record { check = i.check; count = zone_count h; given = capacity_given h; walk = i.walk; active = i.active }) (refused_with i BadReport)).count
    by true good p = (fields_told h good).0
    by false bad p = let z : ◌≡◌ {A = ℕ} 0 1 = cc in absurd (omega arith)

-- A ZONE

-- an active file is one more
active_few : (seq active : Bool) → flag_code (seq && active) ≤ flag_code seq
active_few true true = omega arith
active_few true false = omega arith
active_few false active = omega arith

module _ (r : Rule) (s : Taking) (z : Zone) (ready : Ready s.intake) where
  filed_bounded : good_zone r.unit s.intake.walk.expected z ≡ true → BoundedIntake (filed r s z).intake
  unfolding filed
  filed_bounded good =
      let w = s.intake.walk in
      let b = ready.0 in
      let e = s.intake.walk.expected in
      record {
        walk = bounded_step r.aggregate w z b.walk (zone-told r.unit e z good).0 (zone_bounded r.unit e z good) (omega (arith, ready.1, b.count));
        count = b.count;
        number = omega (arith, ready.1, step_number r.aggregate w z);
        active = omega (arith, b.active, step_seqs r.aggregate w z, active_few (is_seq_file w z) (is_active r.explicit (seq_row z)));
      }

-- what a zone leaves: bounded numbers, under the same count
abbrev Kept : Intake → Intake → Type 0
Kept i j = BoundedIntake j × (j.count ≡ i.count) × (j.given ≡ i.given)

refused_kept : (i : Intake) (x : Refusal) → BoundedIntake i → Kept i (refused_with i x)
refused_kept i x b = (refused_bounded i x b, refl, refl)

pub zone_kept : (r : Rule) (s : Taking) (z : Zone) → Ready s.intake → Kept s.intake (zone_taken r s z).intake
unfolding zone_taken good_taken filed
zone_kept r s z ready =
    cases (good_zone r.unit s.intake.walk.expected z)
    (λ good. rw good
    (cases (no_row r.aggregate s.intake.count s.intake.walk z (rows_lent (length s.cnv)) (rows_lent (length s.seq)))
    (λ short. rw short (refused_kept s.intake _ ready.0))
    (λ long. rw long (filed_bounded r s z ready good, refl, refl))))
    (λ bad. rw bad (refused_kept s.intake _ ready.0))
