-- What the formatter's checks tell where they are passed, and what passes them.
-- Assumes nothing.
use Rattle.std.specs.Prelude.{Ok, None}
use Prim.Native.Nat.{ℕ, ◌≤◌}
use mathlib.Core.Path.{◌≡◌, ap}
use mathlib.Core.Bool.{Bool, true, not}
use mathlib.Core.List.{List}
use lib.ListN.{length}
use borrow.Author.Tests.{eqb-true, eq-eqb, not-false, ltb-false, le-ltb}
use Rattle.types.specs.declared.Refusal.TheVariants.{BadBlock, SuperLength, LabelLength, BadZone}
use Rattle.types.specs.Blocks.{block_sectors, good_block}
use Rattle.types.proofs.VerdictLaws.{check_passed, check_passes}
use Rattle.superblock.specs.SuperBlock.{super_length, label_length}
use Rattle.superblock.proofs.Told.{GoodValues, values_told, values_pass}
use Rattle.zones.specs.Zone.{zone_bytes, zone_at, good_zone}
use Rattle.report.specs.Report.{zones_check}
use Rattle.format.specs.declared.SuperFields.{SuperFields}
use Rattle.format.specs.Format.{record_check, format_check}

-- of zone 0's record
pub record_told : (unit : ℕ) (given : Bool) (zone : List ℕ) → record_check unit given zone ≡ Ok tt → (length zone ≡ zone_bytes) × (good_zone unit 0 (zone_at given zone 0) ≡ true)
unfolding record_check zones_check
record_told unit given zone e =
    let (size, first) = check_passed (BadZone 0 None) e in
    (eqb-true _ _ (not-false _ size), not-false _ (check_passed _ first).0)

-- of all that is given
pub record Told (block : ℕ) (lent : List ℕ) (v : SuperFields) (given : Bool) (zone : List ℕ) : Type 0 where
  pub unit : good_block block ≡ true
  pub size : length lent ≡ super_length
  pub values : GoodValues v.features v.owner v.group v.mode
  pub short : length v.label ≤ label_length
  pub first : record_check (block_sectors block) given zone ≡ Ok tt

module _ (block : ℕ) (lent : List ℕ) (v : SuperFields) (given : Bool) (zone : List ℕ) where
  pub format_told : format_check block lent v given zone ≡ Ok tt → Told block lent v given zone
  unfolding format_check
  format_told e =
      let (unit, length) = check_passed BadBlock e in
      let (size, values) = check_passed SuperLength length in
      let (good, label) = values_told values in
      let (short, first) = check_passed LabelLength label in
      record {
        unit = not-false _ unit;
        size = eqb-true _ _ (not-false _ size);
        values = good;
        short = ltb-false _ _ short;
        first = first;
      }

  pub format_passes : Told block lent v given zone → format_check block lent v given zone ≡ Ok tt
  unfolding format_check
  format_passes t =
      check_passes BadBlock (ap not t.unit) (check_passes SuperLength (ap not (eq-eqb _ _ t.size)) (values_pass t.values (check_passes LabelLength (le-ltb _ _ t.short) t.first)))
