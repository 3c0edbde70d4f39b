-- Zones taken one after the other come to their first fault, and store the rows of the files that are finished before it.
-- Assumes nothing.
use Rattle.std.specs.Prelude.{Ok, Err}
use mathlib.Core.Path.{◌≡◌, refl, ap, ◌∙◌, sym, subst}
use mathlib.Core.List.{List, [], ◌∷◌, ◌++◌, append-nil}
use mathlib.Core.Bool.{Bool, true, false}
use Prim.Native.Nat.{ℕ, ◌+◌, ◌≤◌, ◌<◌}
use native.Mathlib.Omega.{arith}
use lib.ListN.{length, drop, length-append}
use lib.Seq.{append_snoc}
use Rattle.types.specs.declared.Refusal.{Refusal}
use Rattle.types.specs.Answers.{Verdict}
use Rattle.types.proofs.Tests.{cases}
use Rattle.table.specs.Rows.{rows_lent}
use Rattle.zones.specs.declared.Zone.{Zone}
use Rattle.zones.specs.Zone.{good_zone}
use Rattle.files.specs.declared.Walk.{Walk}
use Rattle.files.specs.Files.{seq_rows}
use Rattle.files.specs.Walk.{begun, walked}
use Rattle.report.specs.Facts.{end_of}
use Rattle.mount.specs.Fill.{fill}
use Rattle.intake.specs.declared.Rule.{Rule}
use Rattle.intake.specs.Steps.{Taking}
use Rattle.first_fault.specs.FirstFault.{out_of_rows, fault_from, passed_from, finished_runs}
use Rattle.first_fault.proofs.Fold.{zones_taken, after_header, AllTaken, Came}
use Rattle.first_fault.proofs.Finished.{finished_all, finished_bad, finished_good}
use Rattle.first_fault.proofs.NextFault.{fault_here, fault_later, after_bad, after-lacks, after_good}
use Rattle.first_fault.proofs.Tables.{cnv_taken, seq_taken}
use Rattle.first_fault.proofs.Taken.{taking, Fitting, taken_to, active_taken, fitting_none, taken_none, fitting_next, taken_bad, taken_lacks, taken_next}

-- a refusal stays
refused_stays : (r : Rule) (x : Refusal) (count : ℕ) (given : Bool) (w : Walk) (active : ℕ) (cnv seq : List ℕ) (zs : List Zone)
    → zones_taken r (taking (Err x) count given w active cnv seq) zs ≡ taking (Err x) count given w active cnv seq
unfolding zones_taken
refused_stays r x count given w active cnv seq [] = refl
refused_stays r x count given w active cnv seq (z ∷ zs) = refused_stays r x count given w active cnv seq zs

-- WHAT THEY COME TO: a verdict, with these zones passed of all
record Reached (r : Rule) (count : ℕ) (given : Bool) (cnv seq : List ℕ) (v : Verdict) (passed all : List Zone) (s : Taking) : Type 0 where
  check : s.intake.check ≡ v
  cnvs : s.cnv ≡ fill cnv (finished_runs r.unit r.aggregate (rows_lent (length cnv)) (rows_lent (length seq)) count passed all)
  seqs : s.seq ≡ fill seq (seq_rows (drop 1 passed))
  counts : s.intake.count ≡ count
  gives : s.intake.given ≡ given
  whole : s.intake.check ≡ Ok tt → AllTaken r s all

module _ (r : Rule) (count : ℕ) (given : Bool) (cnv seq : List ℕ) where
  -- no zone is left
  reached_all : (zs : List Zone) → Reached r count given cnv seq (Ok tt) zs zs (taken_to r count given cnv seq zs)
  unfolding cnv_taken seq_taken
  reached_all zs =
      record {
        check = refl;
        cnvs = ap (fill cnv) (sym (finished_all r.unit r.aggregate (rows_lent (length cnv)) (rows_lent (length seq)) count zs));
        seqs = refl;
        counts = refl;
        gives = refl;
        whole = λ p. record { walk = refl; active = refl };
      }

  -- a refusal, with the conventional table as it leaves it
  reached_refused : (x : Refusal) (zs all : List Zone) (t : List ℕ)
      → t ≡ fill cnv (finished_runs r.unit r.aggregate (rows_lent (length cnv)) (rows_lent (length seq)) count zs all)
      → Reached r count given cnv seq (Err x) zs all
      (taking (Err x) count given (walked r.aggregate begun zs) (active_taken r seq zs) t (seq_taken seq zs))
  unfolding seq_taken
  reached_refused x zs all t e =
      record {
        check = refl;
        cnvs = e;
        seqs = refl;
        counts = refl;
        gives = refl;
        whole = λ p. let never : ◌≡◌ {A = ℕ} 0 1 = cc in absurd (omega arith);
      }

  -- the same, said of what they are
  reached_as : {v v' : Verdict} {p p' all all' : List Zone} {s s' : Taking} → v ≡ v' → p ≡ p' → all ≡ all' → s ≡ s'
      → Reached r count given cnv seq v' p' all' s' → Reached r count given cnv seq v p all s
  reached_as {v} {v'} {p} {p'} {all} {all'} {s} {s'} e f g h so =
      subst (λ (x : Verdict). Reached r count given cnv seq x p all s) (sym e)
      (subst (λ (x : List Zone). Reached r count given cnv seq v' x all s) (sym f)
      (subst (λ (x : List Zone). Reached r count given cnv seq v' p' x s) (sym g)
      (subst (λ (x : Taking). Reached r count given cnv seq v' p' all' x) (sym h) so)))

  -- of the zones from here on, where those before them have passed
  abbrev Comes : List Zone → List Zone → Type 0
  Comes zs rest =
      Reached r count given cnv seq (fault_from r.unit r.aggregate (rows_lent (length cnv)) (rows_lent (length seq)) zs rest)
      (passed_from r.unit r.aggregate (rows_lent (length cnv)) (rows_lent (length seq)) zs rest) (zs ++ rest)
      (zones_taken r (taken_to r count given cnv seq zs) rest)

  module _ (zs : List Zone) (z : Zone) (rest : List Zone) (fit : Fitting r.aggregate cnv seq zs) where
    comes_bad : good_zone r.unit (end_of 0 zs) z ≡ false → Comes zs (z ∷ rest)
    unfolding zones_taken cnv_taken
    comes_bad bad =
        let c = rows_lent (length cnv) in
        let s = rows_lent (length seq) in
        let fault = fault_here r.unit r.aggregate c s zs z rest (after_bad r.unit r.aggregate c s zs z bad) in
        reached_as fault.0 fault.1 refl
        (ap (λ (s : Taking). zones_taken r s rest) (taken_bad r count given cnv seq zs z fit bad) ∙ refused_stays r _ count given _ _ _ _ rest)
        (reached_refused _ zs (zs ++ (z ∷ rest)) _ (ap (fill cnv) (sym (finished_bad r.unit r.aggregate c s count zs z rest bad))))

    module _ (good : good_zone r.unit (end_of 0 zs) z ≡ true) (more : length zs < count) where
      comes_lacks : out_of_rows r.unit r.aggregate (rows_lent (length cnv)) (rows_lent (length seq)) (zs ++ (z ∷ [])) ≡ true → Comes zs (z ∷ rest)
      unfolding zones_taken
      comes_lacks lacking =
          let c = rows_lent (length cnv) in
          let s = rows_lent (length seq) in
          let fault = fault_here r.unit r.aggregate c s zs z rest (after-lacks r.unit r.aggregate c s zs z good lacking) in
          reached_as fault.0 fault.1 refl
          (ap (λ (s : Taking). zones_taken r s rest) (taken_lacks r count given cnv seq zs z fit good more lacking)
          ∙ refused_stays r _ count given _ _ _ _ rest)
          (reached_refused _ zs (zs ++ (z ∷ rest)) _ (ap (fill cnv) (sym (finished_good r.unit r.aggregate c s count zs z rest good more))))

      comes_on : out_of_rows r.unit r.aggregate (rows_lent (length cnv)) (rows_lent (length seq)) (zs ++ (z ∷ [])) ≡ false
          → Comes (zs ++ (z ∷ [])) rest → Comes zs (z ∷ rest)
      unfolding zones_taken
      comes_on fitting so =
          let c = rows_lent (length cnv) in
          let s = rows_lent (length seq) in
          let fault = fault_later r.unit r.aggregate c s zs z rest (after_good r.unit r.aggregate c s zs z good fitting) in
          reached_as fault.0 fault.1 (sym (append_snoc zs z rest))
          (ap (λ (s : Taking). zones_taken r s rest) (taken_next r count given cnv seq zs z fit good more fitting)) so

  comes : (zs rest : List Zone) → Fitting r.aggregate cnv seq zs → length zs + length rest ≤ count → Comes zs rest
  unfolding zones_taken fault_from passed_from
  comes zs [] fit h = reached_as refl refl (append-nil zs) refl (reached_all zs)
  comes zs (z ∷ rest) fit h =
      cases (good_zone r.unit (end_of 0 zs) z)
      (λ good. cases (out_of_rows r.unit r.aggregate (rows_lent (length cnv)) (rows_lent (length seq)) (zs ++ (z ∷ [])))
      (λ lacking. comes_lacks zs z rest fit good (omega arith) lacking)
      (λ fitting. comes_on zs z rest fit good (omega arith) fitting
      (comes (zs ++ (z ∷ [])) rest (fitting_next r count given cnv seq zs z fit fitting) (omega (arith, length-append zs (z ∷ []))))))
      (λ bad. comes_bad zs z rest fit bad)

-- THE LAW
pub zones_come : (r : Rule) (count : ℕ) (given : Bool) (cnv seq : List ℕ) (zs : List Zone) → length zs ≤ count
    → Came r count given cnv seq zs (zones_taken r (after_header count given cnv seq) zs)
zones_come r count given cnv seq zs h =
    let so = comes r count given cnv seq [] zs (fitting_none r.aggregate cnv seq) (omega arith) in
    subst (λ (s : Taking). Came r count given cnv seq zs (zones_taken r s zs)) (taken_none r count given cnv seq)
    (record { check = so.check; cnvs = so.cnvs; seqs = so.seqs; counts = so.counts; gives = so.gives; whole = so.whole })
