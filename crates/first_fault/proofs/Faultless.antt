-- Bytes have no fault in byte order, and none at the end, exactly if the whole report's checks find none.
-- Assumes nothing.
use Rattle.std.specs.Prelude.{Ok}
use Prim.Native.Nat.{ℕ, ◌+◌, ◌-◌, ◌/◌, min}
use native.Mathlib.Omega.{arith}
use mathlib.Core.Path.{◌≡◌, refl, sym, ap, ◌∙◌, subst}
use mathlib.Core.Bool.{Bool, true, false, not, ◌&&◌}
use mathlib.Core.List.{List, [], ◌∷◌, ◌++◌, append-nil}
use borrow.Author.Tests.{ltb-false, leb-true, eqb-true, le-ltb, le-leb, eq-eqb, not-false}
use lib.Dec.{leb, ltb, eqb}
use lib.ListN.{length}
use lib.Seq.{append_snoc}
use Rattle.types.specs.declared.Refusal.TheVariants.{BadReport, BadZone, TooFewRows}
use Rattle.types.specs.Answers.{Verdict}
use Rattle.types.proofs.Tests.{both, and_left, and_right, or_left, or_right}
use Rattle.types.proofs.VerdictLaws.{check_passed, check_passes, then_passed, then_passes}
use Rattle.zones.specs.declared.Zone.{Zone}
use Rattle.zones.specs.Zone.{zone_bytes, good_zone}
use Rattle.zones.specs.Faults.{zone_fault}
use Rattle.report.specs.Report.{header_bytes, zone_count, good_fields, good_header, zones_from, zones_of}
use Rattle.report.specs.Facts.{end_of}
use Rattle.report.proofs.Laws.{AllGood, GoodReport}
use Rattle.first_fault.specs.FirstFault.{report_bytes, whole_zones, out_of_rows, fault_after, fault_from, on_passed, passed_from, first_fault, end_fault}
use Rattle.first_fault.proofs.NextFault.{after_good}
use Rattle.first_fault.proofs.Prefix.{fits_none, fits_before}

-- where zones end with one more
end_next : (e : ℕ) (zs : List Zone) (z : Zone) → end_of e (zs ++ (z ∷ [])) ≡ z.start + z.length
unfolding end_of
end_next e [] z = refl
end_next e (y ∷ zs) z = end_next (y.start + y.length) zs z

module _ (unit : ℕ) (aggregate : Bool) (cnv_room seq_room : ℕ) where
  -- ZONES

  after-told : (before : List Zone) (z : Zone) → fault_after unit aggregate cnv_room seq_room before z ≡ Ok tt
      → (good_zone unit (end_of 0 before) z ≡ true) × (out_of_rows unit aggregate cnv_room seq_room (before ++ (z ∷ [])) ≡ false)
  unfolding fault_after
  after-told before z h =
      let good = check_passed (BadZone (length before) (zone_fault unit (end_of 0 before) z)) h in
      (not-false _ good.0, (check_passed TooFewRows good.1).0)

  zones_told : (before zs : List Zone) → fault_from unit aggregate cnv_room seq_room before zs ≡ Ok tt → out_of_rows unit aggregate cnv_room seq_room before ≡ false
      → AllGood unit (end_of 0 before) zs × (out_of_rows unit aggregate cnv_room seq_room (before ++ zs) ≡ false)
  unfolding fault_from AllGood
  zones_told before [] h fits = (tt, ap (out_of_rows unit aggregate cnv_room seq_room) (append-nil before) ∙ fits)
  zones_told before (z ∷ zs) h fits =
      let parts = then_passed (fault_after unit aggregate cnv_room seq_room before z) h in
      let here = after-told before z parts.0 in
      let rest = zones_told (before ++ (z ∷ [])) zs parts.1 here.1 in (
        (here.0, subst (λ (e : ℕ). AllGood unit e zs) (end_next 0 before z) rest.0),
        ap (out_of_rows unit aggregate cnv_room seq_room) (sym (append_snoc before z zs)) ∙ rest.1,
      )

  zones_given : (before zs : List Zone) → AllGood unit (end_of 0 before) zs → out_of_rows unit aggregate cnv_room seq_room (before ++ zs) ≡ false
      → fault_from unit aggregate cnv_room seq_room before zs ≡ Ok tt
  unfolding fault_from AllGood
  zones_given before [] good fits = refl
  zones_given before (z ∷ zs) good fits =
      let all : out_of_rows unit aggregate cnv_room seq_room ((before ++ (z ∷ [])) ++ zs) ≡ false = ap (out_of_rows unit aggregate cnv_room seq_room) (append_snoc before z zs) ∙ fits in
      let here = after_good unit aggregate cnv_room seq_room before z good.0 (fits_before unit aggregate cnv_room seq_room (before ++ (z ∷ [])) zs all) in
      then_passes here (zones_given (before ++ (z ∷ [])) zs (subst (λ (e : ℕ). AllGood unit e zs) (sym (end_next 0 before z)) good.1) all)

  -- they all pass then
  pub zones_passed : (before zs : List Zone) → fault_from unit aggregate cnv_room seq_room before zs ≡ Ok tt
      → passed_from unit aggregate cnv_room seq_room before zs ≡ before ++ zs
  unfolding fault_from passed_from
  zones_passed before [] h = sym (append-nil before)
  zones_passed before (z ∷ zs) h =
      let parts = then_passed (fault_after unit aggregate cnv_room seq_room before z) h in
      ap (λ (v : Verdict). on_passed unit aggregate cnv_room seq_room v before (passed_from unit aggregate cnv_room seq_room (before ++ (z ∷ [])) zs)) parts.0
      ∙ zones_passed (before ++ (z ∷ [])) zs parts.1
      ∙ append_snoc before z zs

  -- BYTES, and what is left of them at the end

  -- all zones are whole
  pub whole_all : (b : List ℕ) → length b ≡ report_bytes b → whole_zones b ≡ zones_of b
  unfolding whole_zones zones_of
  whole_all b exact =
      let all : min (zone_count b) ((length b - header_bytes) / zone_bytes) ≡ zone_count b = omega arith in
      ap (λ (n : ℕ). zones_from n b 0) all

  -- no fault, neither so far nor at the end: the header is good and so long, and its zones have none
  pub record Whole (b : List ℕ) : Type 0 where
    pub header : good_header b ≡ true
    pub zones : fault_from unit aggregate cnv_room seq_room [] (zones_of b) ≡ Ok tt

  pub whole_told : (b : List ℕ) → end_fault unit aggregate cnv_room seq_room b ≡ Ok tt → Whole b
  unfolding end_fault first_fault good_header
  whole_told b h =
      let parts = then_passed _ h in
      let ends = (check_passed BadReport parts.1).0 in
      let headed = ltb-false (length b) header_bytes (or_left (ltb (length b) header_bytes) (ltb (length b) (report_bytes b)) ends) in
      let enough = ltb-false (length b) (report_bytes b) (or_right (ltb (length b) header_bytes) (ltb (length b) (report_bytes b)) ends) in
      let there : leb header_bytes (length b) ≡ true = le-leb header_bytes (length b) headed in
      let first = check_passed BadReport (rw there at parts.0) in
      let second = then_passed (fault_from unit aggregate cnv_room seq_room [] (whole_zones b)) first.1 in
      let most = ltb-false (report_bytes b) (length b) (check_passed BadReport second.1).0 in
      let exact : length b ≡ report_bytes b = omega arith in
      record {
        header = both there (both (not-false (good_fields b) first.0) (eq-eqb (length b) (report_bytes b) exact));
        zones = ap (fault_from unit aggregate cnv_room seq_room []) (sym (whole_all b exact)) ∙ second.0;
      }

  pub whole_given : (b : List ℕ) → Whole b → end_fault unit aggregate cnv_room seq_room b ≡ Ok tt
  unfolding end_fault first_fault good_header
  whole_given b w =
      let there : leb header_bytes (length b) ≡ true = and_left (leb header_bytes (length b)) _ w.header in
      let rest = and_right (leb header_bytes (length b)) (good_fields b && eqb (length b) (report_bytes b)) w.header in
      let good : good_fields b ≡ true = and_left (good_fields b) (eqb (length b) (report_bytes b)) rest in
      let exact : length b ≡ report_bytes b = eqb-true (length b) (report_bytes b) (and_right (good_fields b) (eqb (length b) (report_bytes b)) rest) in
      let short : ltb (length b) header_bytes ≡ false = le-ltb (length b) header_bytes (leb-true header_bytes (length b) there) in
      let wanting : ltb (length b) (report_bytes b) ≡ false = le-ltb (length b) (report_bytes b) (omega arith) in
      let long : ltb (report_bytes b) (length b) ≡ false = le-ltb (report_bytes b) (length b) (omega arith) in
      then_passes
      (rw there (check_passes BadReport (ap not good)
      (then_passes (ap (fault_from unit aggregate cnv_room seq_room []) (whole_all b exact) ∙ w.zones) (check_passes BadReport long refl))))
      (check_passes BadReport (rw (short, wanting)) refl)

  -- so the whole report is good, and the tables suffice; and the other way round
  pub faultless_told : (b : List ℕ) → Whole b → GoodReport unit b × (out_of_rows unit aggregate cnv_room seq_room (zones_of b) ≡ false)
  unfolding end_of
  faultless_told b w =
      let zones = zones_told [] (zones_of b) w.zones (fits_none unit aggregate cnv_room seq_room) in
      (record { header = w.header; zones = zones.0 }, zones.1)

  pub faultless_given : (b : List ℕ) → GoodReport unit b → out_of_rows unit aggregate cnv_room seq_room (zones_of b) ≡ false → Whole b
  unfolding end_of
  faultless_given b g fits = record { header = g.header; zones = zones_given [] (zones_of b) g.zones fits }
