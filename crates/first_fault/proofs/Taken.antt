-- What has been taken once zones have passed, all of them: the walk over them, and the rows stored that are finished. And what a zone makes of it.
-- Assumes nothing.
use Rattle.std.specs.Prelude.{Ok, Err}
use mathlib.Core.Path.{◌≡◌, refl, ap, ◌∙◌, sym}
use mathlib.Core.List.{List, [], ◌∷◌, ◌++◌}
use mathlib.Core.Bool.{Bool, true, false}
use Prim.Native.Nat.{ℕ, ◌+◌, ◌≤◌, ◌<◌}
use native.Mathlib.Omega.{arith}
use borrow.Author.Tests.{ltb-false}
use lib.ListN.{length, drop}
use lib.Dec.{ltb}
use Rattle.types.specs.Codes.{flag_code}
use Rattle.types.specs.declared.Refusal.TheVariants.{BadZone, TooFewRows}
use Rattle.types.specs.Answers.{Verdict}
use Rattle.types.proofs.Tests.{or_left, or_right}
use Rattle.table.specs.Rows.{rows_lent}
use Rattle.account.specs.Account.{is_active}
use Rattle.account.specs.Counts.{count_in}
use Rattle.zones.specs.declared.Zone.{Zone}
use Rattle.zones.specs.Zone.{good_zone}
use Rattle.zones.specs.Faults.{zone_fault}
use Rattle.files.specs.declared.Walk.{Walk}
use Rattle.files.specs.Files.{seq_row, seq_rows, cnv_rows}
use Rattle.files.specs.Walk.{begun, walked, stepped, row_of_run, is_seq_file, cnv_files}
use Rattle.files.proofs.Walks.{step_seqs, cnv_count_lem, seq_count}
use Rattle.report.specs.Facts.{end_of}
use Rattle.mount.specs.Fill.{rows_words, fill}
use Rattle.intake.specs.declared.Rule.{Rule}
use Rattle.intake.specs.Steps.{Taking, ends_with, put_row, no_row, run_stored, active_file, filed, good_taken, zone_taken}
use Rattle.first_fault.specs.FirstFault.{out_of_rows}
use Rattle.first_fault.proofs.Fold.{after_header}
use Rattle.first_fault.proofs.Walked.{cnv_ended, walked_next, walked_number, walked_expected}
use Rattle.first_fault.proofs.Stored.{no_row_lem}
use Rattle.first_fault.proofs.Tables.{cnv_taken, seq_taken, cnv_long_lem, cnv_before, cnv_with, seq_long_lem, seq_with, active_with}

-- A ZONE THAT IS TAKEN, by what is found of it

abbrev pub taking : Verdict → ℕ → Bool → Walk → ℕ → List ℕ → List ℕ → Taking
taking v count given w active cnv seq =
    record { intake = record { check = v; count = count; given = given; walk = w; active = active }; cnv = cnv; seq = seq }

taking_same : {v v' : Verdict} (count : ℕ) (given : Bool) {w w' : Walk} {a a' : ℕ} {c c' s s' : List ℕ} → v ≡ v' → w ≡ w' → a ≡ a' → c ≡ c' → s ≡ s'
    → taking v count given w a c s ≡ taking v' count given w' a' c' s'
taking_same count given p q h k l = cc

module _ (r : Rule) (count : ℕ) (given : Bool) (w : Walk) (active : ℕ) (cnv seq : List ℕ) (z : Zone) where
  zone_bad : good_zone r.unit w.expected z ≡ false
      → zone_taken r (taking (Ok tt) count given w active cnv seq) z
      ≡ taking (Err (BadZone w.number (zone_fault r.unit w.expected z))) count given w active cnv seq
  unfolding zone_taken
  zone_bad bad = rw bad

  module _ (good : good_zone r.unit w.expected z ≡ true) where
    zone-lacks : no_row r.aggregate count w z (rows_lent (length cnv)) (rows_lent (length seq)) ≡ true
        → zone_taken r (taking (Ok tt) count given w active cnv seq) z
        ≡ taking (Err TooFewRows) count given w active (run_stored r.aggregate w z cnv) seq
    unfolding zone_taken good_taken
    zone-lacks lacking = rw (good, lacking)

    zone-filed : no_row r.aggregate count w z (rows_lent (length cnv)) (rows_lent (length seq)) ≡ false
        → zone_taken r (taking (Ok tt) count given w active cnv seq) z
        ≡ taking (Ok tt) count given (stepped r.aggregate w z) (active + flag_code (active_file r.explicit w z))
        (put_row (ends_with r.aggregate count (stepped r.aggregate w z)) (run_stored r.aggregate w z cnv) (stepped r.aggregate w z).cnvs
        (row_of_run (stepped r.aggregate w z).run))
        (put_row (is_seq_file w z) seq w.seqs (seq_row z))
    unfolding zone_taken good_taken filed
    zone-filed fitting = rw (good, fitting)

-- ZONES THAT HAVE PASSED, after a header that counts `count`

-- their files have rows
pub record Fitting (aggregate : Bool) (cnv seq : List ℕ) (zs : List Zone) : Type 0 where
  pub cnvs : cnv_files (walked aggregate begun zs) ≤ rows_lent (length cnv)
  pub seqs : (walked aggregate begun zs).seqs ≤ rows_lent (length seq)

pub fitting_none : (aggregate : Bool) (cnv seq : List ℕ) → Fitting aggregate cnv seq []
unfolding walked
fitting_none aggregate cnv seq = record { cnvs = omega arith; seqs = omega arith }

-- so many of them are active
abbrev pub active_taken : Rule → List ℕ → List Zone → ℕ
active_taken r seq zs = count_in (is_active r.explicit) (seq_taken seq zs) (walked r.aggregate begun zs).seqs

module _ (r : Rule) (count : ℕ) (given : Bool) (cnv seq : List ℕ) where
  abbrev pub taken_to : List Zone → Taking
  taken_to zs = taking (Ok tt) count given (walked r.aggregate begun zs) (active_taken r seq zs) (cnv_taken r.aggregate count cnv zs) (seq_taken seq zs)

  pub taken_none : taken_to [] ≡ after_header count given cnv seq
  unfolding walked cnv_ended cnv_taken seq_rows seq_taken rows_words fill count_in
  taken_none = refl

  module _ (zs : List Zone) (z : Zone) (fit : Fitting r.aggregate cnv seq zs) where
    -- it lacks a row where there are more files with it than rows
    counted : no_row r.aggregate count (walked r.aggregate begun zs) z
        (rows_lent (length (cnv_taken r.aggregate count cnv zs))) (rows_lent (length (seq_taken seq zs)))
        ≡ out_of_rows r.unit r.aggregate (rows_lent (length cnv)) (rows_lent (length seq)) (zs ++ (z ∷ []))
    counted =
        let w = walked r.aggregate begun zs in
        let more = walked_next r.aggregate begun zs z in
        rw (cnv_long_lem r.aggregate count cnv zs fit.cnvs, seq_long_lem r.aggregate seq zs fit.seqs)
        (no_row_lem r.aggregate count w z (rows_lent (length cnv)) (rows_lent (length seq)) fit.cnvs fit.seqs
        ∙ rw (← more, cnv_count_lem, seq_count))

    -- a zone more passes
    pub fitting_next : out_of_rows r.unit r.aggregate (rows_lent (length cnv)) (rows_lent (length seq)) (zs ++ (z ∷ [])) ≡ false
        → Fitting r.aggregate cnv seq (zs ++ (z ∷ []))
    fitting_next h =
        let c = length (cnv_rows r.aggregate (drop 1 (zs ++ (z ∷ [])))) in
        let s = length (seq_rows (drop 1 (zs ++ (z ∷ [])))) in
        let wide = ltb-false (rows_lent (length cnv)) c (or_left (ltb (rows_lent (length cnv)) c) (ltb (rows_lent (length seq)) s) h) in
        let deep = ltb-false (rows_lent (length seq)) s (or_right (ltb (rows_lent (length cnv)) c) (ltb (rows_lent (length seq)) s) h) in
        record { cnvs = omega (arith, cnv_count_lem r.aggregate (zs ++ (z ∷ []))); seqs = omega (arith, seq_count r.aggregate (zs ++ (z ∷ []))) }

    expects : good_zone r.unit (walked r.aggregate begun zs).expected z ≡ good_zone r.unit (end_of 0 zs) z
    expects = ap (λ (n : ℕ). good_zone r.unit n z) (walked_expected r.aggregate zs)

    pub taken_bad : good_zone r.unit (end_of 0 zs) z ≡ false
        → zone_taken r (taken_to zs) z
        ≡ taking (Err (BadZone (length zs) (zone_fault r.unit (end_of 0 zs) z))) count given (walked r.aggregate begun zs) (active_taken r seq zs)
        (cnv_taken r.aggregate count cnv zs) (seq_taken seq zs)
    taken_bad bad =
        let w = walked r.aggregate begun zs in
        let place : BadZone w.number (zone_fault r.unit w.expected z) ≡ BadZone (length zs) (zone_fault r.unit (end_of 0 zs) z) =
        cc (walked_number r.aggregate zs, walked_expected r.aggregate zs) in
        zone_bad r count given w (active_taken r seq zs) (cnv_taken r.aggregate count cnv zs) (seq_taken seq zs) z (expects ∙ bad)
        ∙ taking_same count given (ap Err place) refl refl refl refl

    module _ (good : good_zone r.unit (end_of 0 zs) z ≡ true) (more : length zs < count) where
      pub taken_lacks : out_of_rows r.unit r.aggregate (rows_lent (length cnv)) (rows_lent (length seq)) (zs ++ (z ∷ [])) ≡ true
          → zone_taken r (taken_to zs) z
          ≡ taking (Err TooFewRows) count given (walked r.aggregate begun zs) (active_taken r seq zs)
          (fill cnv (cnv_ended r.aggregate begun (zs ++ (z ∷ [])))) (seq_taken seq zs)
      taken_lacks lacking =
          let w = walked r.aggregate begun zs in
          zone-lacks r count given w (active_taken r seq zs) (cnv_taken r.aggregate count cnv zs) (seq_taken seq zs) z (expects ∙ good) (counted ∙ lacking)
          ∙ taking_same count given refl refl refl (cnv_before r.aggregate count cnv zs fit.cnvs z more) refl

      pub taken_next : out_of_rows r.unit r.aggregate (rows_lent (length cnv)) (rows_lent (length seq)) (zs ++ (z ∷ [])) ≡ false
          → zone_taken r (taken_to zs) z ≡ taken_to (zs ++ (z ∷ []))
      taken_next fitting =
          let aggregate = r.aggregate in
          let w = walked aggregate begun zs in
          let on : stepped aggregate w z ≡ walked aggregate begun (zs ++ (z ∷ [])) = sym (walked_next aggregate begun zs z) in
          let rows = fitting_next fitting in
          let fits : w.seqs + flag_code (is_seq_file w z) ≤ rows_lent (length seq) =
          omega (arith, ap (λ (v : Walk). v.seqs) on, step_seqs aggregate w z, rows.seqs) in
          let actives =
          active_with aggregate seq zs z fits r.explicit
          ∙ ap (λ (v : Walk). count_in (is_active r.explicit) (seq_taken seq (zs ++ (z ∷ []))) v.seqs) on in
          let runs =
          ap (λ (t : List ℕ). put_row (ends_with aggregate count (stepped aggregate w z)) t (stepped aggregate w z).cnvs (row_of_run (stepped aggregate w z).run))
          (cnv_before aggregate count cnv zs fit.cnvs z more)
          ∙ ap (λ (v : Walk). put_row (ends_with aggregate count v) (fill cnv (cnv_ended aggregate begun (zs ++ (z ∷ [])))) v.cnvs (row_of_run v.run)) on
          ∙ cnv_with aggregate count cnv (zs ++ (z ∷ [])) rows.cnvs in
          zone-filed r count given w (active_taken r seq zs) (cnv_taken aggregate count cnv zs) (seq_taken seq zs) z (expects ∙ good) (counted ∙ fitting)
          ∙ taking_same count given refl on actives runs (seq_with aggregate seq zs z fits)
