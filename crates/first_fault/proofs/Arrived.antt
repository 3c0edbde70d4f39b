-- What bytes come to: before a header, after a bad one, and after a good one by what its whole zones come to.
-- Assumes nothing.
use Rattle.std.specs.Prelude.{Ok}
use Prim.Native.Nat.{ℕ, ◌≤◌, ◌<◌}
use native.Mathlib.Omega.{arith}
use mathlib.Core.Path.{◌≡◌, refl, sym, ap, ◌∙◌, subst}
use mathlib.Core.Bool.{Bool, true, false, cond}
use mathlib.Core.List.{List, []}
use borrow.Author.Tests.{le-leb, lt-leb, lt-ltb}
use lib.Dec.{leb, ltb}
use lib.ListN.{length, drop}
use Rattle.types.specs.Verdicts.{refuse, and_then}
use Rattle.types.specs.declared.Refusal.TheVariants.{BadReport}
use Rattle.table.specs.Rows.{rows_lent}
use Rattle.zones.specs.declared.Zone.{Zone}
use Rattle.files.specs.Files.{seq_rows, runs, cnv_rows}
use Rattle.report.specs.Report.{header_bytes, zone_count, good_fields, zones_of}
use Rattle.mount.specs.Fill.{rows_words, fill}
use Rattle.intake.specs.declared.Rule.{Rule}
use Rattle.intake.specs.declared.Intake.{Intake}
use Rattle.intake.specs.Steps.{nothing_taken, refused_with, header_taken}
use Rattle.receiving.specs.Bytes.{Receiving, between, fed}
use Rattle.pieces.specs.Pieces.{end_check}
use Rattle.receiving.proofs.Feeding.{taking_of, fed_refused, fed_part, fed-header}
use Rattle.first_fault.specs.FirstFault.{whole_zones, first_fault, end_fault, passed_zones, unfinished, finished_runs, finished_cnv, finished_seq}
use Rattle.first_fault.specs.Claims.{untaken}
use Rattle.first_fault.proofs.Fold.{AllTaken}
use Rattle.first_fault.proofs.Zonewise.{not_both}

-- NO FILE IS FINISHED before a good header

alike : {X : Type 0} (t : Bool) (x : X) → cond t x x ≡ x
alike true x = refl
alike false x = refl

fill_none : (t : List ℕ) → fill t [] ≡ t
unfolding fill rows_words
fill_none t = refl

none_finished : (unit : ℕ) (aggregate : Bool) (cnv_room seq_room count : ℕ) (all : List Zone) → finished_runs unit aggregate cnv_room seq_room count [] all ≡ []
unfolding finished_runs cnv_rows runs
none_finished unit aggregate cnv_room seq_room count all = alike (unfinished unit aggregate cnv_room seq_room count [] all) []

module _ (r : Rule) (b cnv seq : List ℕ) where
  abbrev cnv_room : ℕ
  cnv_room = rows_lent (length cnv)

  abbrev seq_room : ℕ
  seq_room = rows_lent (length seq)

  pub record Arrived (s : Receiving) : Type 0 where
    pub check : s.received.intake.check ≡ first_fault r.unit r.aggregate cnv_room seq_room b
    pub ends : end_check s.received.intake ≡ end_fault r.unit r.aggregate cnv_room seq_room b
    pub cnvs : s.cnv ≡ fill cnv (finished_cnv r.unit r.aggregate cnv_room seq_room b)
    pub seqs : s.seq ≡ fill seq (finished_seq r.unit r.aggregate cnv_room seq_room b)
    pub whole : end_check s.received.intake ≡ Ok tt → AllTaken r (taking_of s) (zones_of b)

  module _ (none : passed_zones r.unit r.aggregate cnv_room seq_room b ≡ []) where
    no_cnv : cnv ≡ fill cnv (finished_cnv r.unit r.aggregate cnv_room seq_room b)
    unfolding finished_cnv
    no_cnv =
        sym (ap (fill cnv)
        (ap (λ (p : List Zone). finished_runs r.unit r.aggregate cnv_room seq_room (zone_count b) p (whole_zones b)) none
        ∙ none_finished r.unit r.aggregate cnv_room seq_room (zone_count b) (whole_zones b))
        ∙ fill_none cnv)

    no_seq : seq ≡ fill seq (finished_seq r.unit r.aggregate cnv_room seq_room b)
    unfolding finished_seq seq_rows
    no_seq = sym (ap (λ (p : List Zone). fill seq (seq_rows (drop 1 p))) none ∙ fill_none seq)

  -- THE HEADER ISN'T THERE

  pub short_come : length b < header_bytes → Arrived (fed r (untaken cnv seq) b)
  unfolding first_fault end_fault end_check passed_zones and_then refuse
  short_come h =
      let less : leb header_bytes (length b) ≡ false = lt-leb header_bytes (length b) h in
      let missing : ltb (length b) header_bytes ≡ true = lt-ltb (length b) header_bytes h in
      let none : passed_zones r.unit r.aggregate cnv_room seq_room b ≡ [] = rw less in
      subst Arrived (sym (fed_part r (untaken cnv seq) b refl refl (omega arith)))
      (record { check = sym (rw less); ends = sym (rw (less, missing)); cnvs = no_cnv none; seqs = no_seq none; whole = λ p. not_both refl p })

  -- IT IS BAD

  pub bad_come : header_bytes ≤ length b → good_fields b ≡ false → Arrived (fed r (untaken cnv seq) b)
  unfolding first_fault end_fault end_check passed_zones and_then refuse header_taken
  bad_come h bad =
      let there : leb header_bytes (length b) ≡ true = le-leb header_bytes (length b) h in
      let none : passed_zones r.unit r.aggregate cnv_room seq_room b ≡ [] = rw (there, bad) in
      let refused : header_taken nothing_taken b ≡ refused_with nothing_taken BadReport = rw bad in
      subst Arrived
      (sym (fed-header r (record { intake = nothing_taken; cnv = cnv; seq = seq }) b refl refl h
      ∙ ap (λ (i : Intake). fed r (between (record { intake = i; cnv = cnv; seq = seq })) (drop header_bytes b)) refused
      ∙ fed_refused r (between (record { intake = refused_with nothing_taken BadReport; cnv = cnv; seq = seq })) (drop header_bytes b) BadReport refl))
      (record { check = sym (rw (there, bad)); ends = sym (rw (there, bad)); cnvs = no_cnv none; seqs = no_seq none; whole = λ p. not_both refl p })
