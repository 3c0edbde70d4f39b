-- What the bytes of a good header and what follows it come to, by what their whole zones come to.
-- Assumes nothing.
use Rattle.std.specs.Prelude.{Ok}
use Prim.Native.Nat.{ℕ, ◌+◌, ◌-◌, ◌*◌, ◌/◌, ◌≤◌, min}
use native.Mathlib.Omega.{arith}
use native.Mathlib.Nat.{zero-add}
use mathlib.Core.Path.{◌≡◌, refl, sym, ap, ◌∙◌, subst}
use mathlib.Core.Bool.{Bool, true, false, not, ◌||◌}
use mathlib.Core.List.{List, []}
use borrow.Author.Tests.{leb-true, leb-false, le-leb, lt-ltb, le-ltb, not-false}
use lib.Dec.{leb, ltb}
use lib.ListN.{length, drop}
use Rattle.types.specs.Verdicts.{refuse, and_then}
use Rattle.types.specs.declared.Refusal.TheVariants.{BadReport}
use Rattle.types.specs.Answers.{Verdict}
use Rattle.types.proofs.Tests.{cases, and_left, and_right}
use Rattle.types.proofs.VerdictLaws.{check_passed, then_passed}
use Rattle.table.specs.Rows.{rows_lent}
use Rattle.zones.specs.declared.Zone.{Zone}
use Rattle.zones.specs.Zone.{zone_bytes}
use Rattle.files.specs.Files.{seq_rows}
use Rattle.report.specs.Report.{header_bytes, zone_count, capacity_given, good_fields, zones_from, zones_of}
use Rattle.mount.specs.Fill.{fill}
use Rattle.intake.specs.declared.Rule.{Rule}
use Rattle.intake.specs.declared.Intake.{Intake}
use Rattle.intake.specs.Steps.{Taking, nothing_taken, header_taken}
use Rattle.receiving.specs.Bytes.{Receiving, complete, between, fed}
use Rattle.pieces.specs.Pieces.{end_check}
use Rattle.receiving.proofs.Feeding.{taking_of, fed-header}
use Rattle.first_fault.specs.FirstFault.{report_bytes, whole_zones, passed_from, first_fault, end_fault, passed_zones, finished_runs, finished_cnv, finished_seq}
use Rattle.first_fault.specs.Claims.{untaken}
use Rattle.first_fault.proofs.Fold.{zones_taken, after_header, AllTaken, Came}
use Rattle.first_fault.proofs.Zonewise.{verdicts, Before, zones_fed}
use Rattle.first_fault.proofs.Rest.{too_long, Followed, followed_same, complete_by, rest_fed}
use Rattle.first_fault.proofs.Arrived.{Arrived}

module _ (r : Rule) (b cnv seq : List ℕ) (h : header_bytes ≤ length b) (good : good_fields b ≡ true) where
  -- so many zones are whole
  abbrev there : ℕ
  there = min (zone_count b) ((length b - header_bytes) / zone_bytes)

  abbrev begins : Taking
  begins = after_header (zone_count b) (capacity_given b) cnv seq

  abbrev taken : Taking
  taken = zones_taken r begins (whole_zones b)

  counted : 1 ≤ zone_count b
  counted = let some : leb 1 (zone_count b) ≡ true = search (and_left, and_right) depth 9 in leb-true 1 (zone_count b) some

  -- they are taken, and then the rest comes
  good_fed : (fed r (untaken cnv seq) b ≡ fed r (between taken) (drop (header_bytes + zone_bytes * there) b)) × Before b taken there
  unfolding header_taken whole_zones
  good_fed =
      let header : header_taken nothing_taken b ≡ begins.intake = rw good in
      let zones = zones_fed r b counted there 0 begins (record { count = refl; given = refl; number = λ p. refl }) (omega arith) (omega arith) in (
        fed-header r (record { intake = nothing_taken; cnv = cnv; seq = seq }) b refl refl h
            ∙ ap (λ (i : Intake). fed r (between (record { intake = i; cnv = cnv; seq = seq })) (drop header_bytes b)) header
            ∙ zones.0
            ∙ ap (λ (k : ℕ). fed r (between taken) (drop (header_bytes + zone_bytes * k) b)) (zero-add there),
        subst (Before b taken) (zero-add there) zones.1,
      )

  good_rest : Followed b taken (fed r (untaken cnv seq) b)
  good_rest = subst (Followed b taken) (sym good_fed.0) (rest_fed r b counted taken there good_fed.1 (omega arith) (omega arith) (λ fewer. omega arith))

  -- all bytes are there exactly if all zones are
  missing : (ltb (length b) header_bytes || ltb (length b) (report_bytes b)) ≡ not (leb (zone_count b) there)
  missing =
      let long : ltb (length b) header_bytes ≡ false = le-ltb (length b) header_bytes h in
      cases (leb (zone_count b) there)
      (λ all. let more = leb-true (zone_count b) there all in rw (all, long, le-ltb (length b) (report_bytes b) (omega arith)))
      (λ fewer. let less = leb-false (zone_count b) there fewer in rw (fewer, long, lt-ltb (length b) (report_bytes b) (omega arith)))

  abbrev here : Receiving
  here = fed r (untaken cnv seq) b

  module _ (came : Came r (zone_count b) (capacity_given b) cnv seq (whole_zones b) taken) where
    good_check_lem : here.received.intake.check ≡ first_fault r.unit r.aggregate (rows_lent (length cnv)) (rows_lent (length seq)) b
    unfolding first_fault refuse
    good_check_lem =
        good_rest.check ∙ ap (λ (v : Verdict). and_then v (too_long b)) came.check ∙ sym (rw (le-leb header_bytes (length b) h, good))

    good_complete : here.received.intake.check ≡ Ok tt → (taken.intake.check ≡ Ok tt) × (complete here.received.intake ≡ leb (zone_count b) there)
    good_complete passed =
        let first : taken.intake.check ≡ (Ok tt) = (then_passed _ (sym good_rest.check ∙ passed)).0 in
        (first, ap complete (good_rest.same passed) ∙ complete_by r b counted taken there good_fed.1 (omega arith) first)

    good_ends : end_check here.received.intake ≡ end_fault r.unit r.aggregate (rows_lent (length cnv)) (rows_lent (length seq)) b
    unfolding end_check end_fault and_then
    good_ends =
        let wanting : Verdict = refuse (not (complete here.received.intake)) BadReport (Ok tt) in
        let short : Verdict = refuse (ltb (length b) header_bytes || ltb (length b) (report_bytes b)) BadReport (Ok tt) in
        verdicts here.received.intake.check
        (λ passed.
        ap (λ (t : Bool). and_then here.received.intake.check (refuse t BadReport (Ok tt))) (ap not (good_complete passed).1 ∙ sym missing)
        ∙ ap (λ (v : Verdict). and_then v short) good_check_lem)
        (λ x refused. ap (λ (v : Verdict). and_then v wanting) refused ∙ sym (ap (λ (v : Verdict). and_then v short) (sym good_check_lem ∙ refused)))

    -- where nothing is missing at the end, all zones were taken
    good_whole : end_check here.received.intake ≡ Ok tt → AllTaken r (taking_of here) (zones_of b)
    unfolding end_check whole_zones zones_of
    good_whole ended =
        let parts = then_passed _ ended in
        let done = good_complete parts.0 in
        let all : zone_count b ≤ there = leb-true (zone_count b) there (sym done.1 ∙ not-false _ (check_passed BadReport parts.1).0) in
        let every : there ≡ zone_count b = omega arith in
        let same : taking_of here ≡ taken = followed_same b taken here good_rest parts.0 in
        subst (λ (t : Taking). AllTaken r t (zones_of b)) (sym same) (subst (λ (n : ℕ). AllTaken r taken (zones_from n b 0)) every (came.whole done.0))

    good_passed : passed_zones r.unit r.aggregate (rows_lent (length cnv)) (rows_lent (length seq)) b
        ≡ passed_from r.unit r.aggregate (rows_lent (length cnv)) (rows_lent (length seq)) [] (whole_zones b)
    unfolding passed_zones
    good_passed = rw (le-leb header_bytes (length b) h, good)

    pub good_come : Arrived r b cnv seq here
    unfolding finished_cnv finished_seq
    good_come =
        record {
          check = good_check_lem;
          ends = good_ends;
          cnvs = good_rest.cnv ∙ came.cnvs
              ∙ ap (λ (p : List Zone). fill cnv (finished_runs r.unit r.aggregate (rows_lent (length cnv)) (rows_lent (length seq)) (zone_count b) p (whole_zones b))) (sym good_passed);
          seqs = good_rest.seq ∙ came.seqs ∙ ap (λ (p : List Zone). fill seq (seq_rows (drop 1 p))) (sym good_passed);
          whole = good_whole;
        }
