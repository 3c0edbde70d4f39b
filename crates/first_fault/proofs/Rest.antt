-- What the bytes do that follow the last whole zone: they begin one that isn't there yet, or are too many, or come after a refusal.
-- Assumes nothing.
use Rattle.std.specs.Prelude.{Ok}
use Prim.Native.Nat.{ℕ, ◌+◌, ◌*◌, ◌≤◌, ◌<◌}
use native.Mathlib.Omega.{arith}
use mathlib.Core.Path.{◌≡◌, refl, sym, ap, ◌∙◌, subst}
use mathlib.Core.Bool.{Bool, true, false, cond}
use mathlib.Core.List.{List, []}
use borrow.Author.Tests.{ltb-true, ltb-false, leb-true, leb-false, le-leb, lt-leb, ne_eqb, le-ltb}
use lib.Dec.{eqb, leb, ltb}
use lib.ListN.{length, drop, length-drop, drop_of_length-le}
use Rattle.types.specs.Verdicts.{refuse, and_then}
use Rattle.types.specs.declared.Refusal.TheVariants.{BadReport}
use Rattle.types.specs.Answers.{Verdict}
use Rattle.types.proofs.Tests.{cases}
use Rattle.zones.specs.Zone.{zone_bytes}
use Rattle.report.specs.Report.{header_bytes, zone_count}
use Rattle.intake.specs.declared.Rule.{Rule}
use Rattle.intake.specs.declared.Intake.{Intake}
use Rattle.intake.specs.Steps.{Taking}
use Rattle.receiving.specs.Bytes.{Receiving, unit_bytes, complete, between, fed}
use Rattle.receiving.proofs.Feeding.{taking_of, fed_refused, fed-extra, fed_part}
use Rattle.first_fault.specs.FirstFault.{report_bytes}
use Rattle.first_fault.proofs.Zonewise.{verdicts, not_both, Before}

-- an extra byte is 28
abbrev pub too_long : List ℕ → Verdict
too_long b = refuse (ltb (report_bytes b) (length b)) BadReport (Ok tt)

-- what they lead to from t, with which the last whole zone was taken
pub record Followed (b : List ℕ) (t : Taking) (s : Receiving) : Type 0 where
  pub check : s.received.intake.check ≡ and_then t.intake.check (too_long b)
  pub cnv : s.cnv ≡ t.cnv
  pub seq : s.seq ≡ t.seq
  pub same : s.received.intake.check ≡ Ok tt → s.received.intake ≡ t.intake

-- with nothing wrong, nothing more was taken
pub followed_same : (b : List ℕ) (t : Taking) (s : Receiving) → Followed b t s → s.received.intake.check ≡ Ok tt → taking_of s ≡ t
followed_same b t s f passed =
    ap (λ (i : Intake). record { intake = i; cnv = s.cnv; seq = s.seq }) (f.same passed)
    ∙ ap (λ (l : List ℕ). record { intake = t.intake; cnv = l; seq = s.seq }) f.cnv
    ∙ ap (λ (l : List ℕ). record { intake = t.intake; cnv = t.cnv; seq = l }) f.seq

module _ (r : Rule) (b : List ℕ) (some : 1 ≤ zone_count b) (t : Taking) (n : ℕ) (so : Before b t n) (inside : n ≤ zone_count b) where
  -- all zones are there exactly if there are so many of them
  pub complete_by : t.intake.check ≡ Ok tt → complete t.intake ≡ leb (zone_count b) n
  complete_by passed =
      let one : leb 1 t.intake.count ≡ true = le-leb 1 t.intake.count (omega (arith, so.count)) in
      rw (one, so.count, so.number passed)

  abbrev rest : List ℕ
  rest = drop (header_bytes + zone_bytes * n) b

  -- no zone more is there, be it that none is counted or that its bytes are missing
  module _ (passed : t.intake.check ≡ Ok tt) (fits : header_bytes + zone_bytes * n ≤ length b) (last : n < zone_count b → length b < header_bytes + zone_bytes * (n + 1)) where
    -- nothing is wrong, and nothing is taken
    nothing_more : (part : List ℕ) (held : ℕ) → ltb (report_bytes b) (length b) ≡ false
        → Followed b t (record { received = record { intake = t.intake; part = part; held = held }; cnv = t.cnv; seq = t.seq })
    unfolding and_then refuse
    nothing_more part held short = record { check = passed ∙ sym (rw (passed, short)); cnv = refl; seq = refl; same = λ p. refl }

    -- a zone has begun
    zone-begun : n < zone_count b → Followed b t (fed r (between t) rest)
    zone-begun fewer =
        let known : eqb t.intake.count 0 ≡ false = ne_eqb t.intake.count 0 (λ q. omega (arith, so.count)) in
        let unit : unit_bytes t.intake ≡ zone_bytes = ap (λ (k : Bool). cond k header_bytes zone_bytes) known in
        let next : complete t.intake ≡ false = complete_by passed ∙ lt-leb (zone_count b) n fewer in
        let few = last fewer in
        subst (Followed b t) (sym (fed_part r (between t) rest passed next (omega (arith, length-drop (header_bytes + zone_bytes * n) b))))
        (nothing_more _ _ (le-ltb (report_bytes b) (length b) (omega arith)))

    -- all are there, and no byte more
    all_there : zone_count b ≤ n → ltb (report_bytes b) (length b) ≡ false → Followed b t (fed r (between t) rest)
    unfolding fed
    all_there all short =
        let exact = ltb-false (report_bytes b) (length b) short in
        let none : rest ≡ [] = drop_of_length-le b {i = header_bytes + zone_bytes * n} (omega arith) in
        subst (λ (l : List ℕ). Followed b t (fed r (between t) l)) (sym none) (nothing_more _ _ short)

    -- or there is one more
    byte_more : zone_count b ≤ n → ltb (report_bytes b) (length b) ≡ true → Followed b t (fed r (between t) rest)
    unfolding and_then refuse
    byte_more all long =
        let more = ltb-true (report_bytes b) (length b) long in
        let done : complete t.intake ≡ true = complete_by passed ∙ le-leb (zone_count b) n all in
        subst (Followed b t) (sym (fed-extra r (between t) rest passed done (omega (arith, length-drop (header_bytes + zone_bytes * n) b))))
        (record { check = sym (rw (passed, long)); cnv = refl; seq = refl; same = λ p. not_both refl p })

    passed_rest : Followed b t (fed r (between t) rest)
    passed_rest =
        cases (leb (zone_count b) n)
        (λ all. cases (ltb (report_bytes b) (length b)) (byte_more (leb-true (zone_count b) n all)) (all_there (leb-true (zone_count b) n all)))
        (λ fewer. zone-begun (leb-false (zone_count b) n fewer))

  pub rest_fed : header_bytes + zone_bytes * n ≤ length b → (n < zone_count b → length b < header_bytes + zone_bytes * (n + 1)) → Followed b t (fed r (between t) rest)
  unfolding and_then
  rest_fed fits last =
      verdicts t.intake.check (λ passed. passed_rest passed fits last)
      (λ x refused.
      subst (Followed b t) (sym (fed_refused r (between t) rest x refused))
      (record { check = refused ∙ sym (rw refused); cnv = refl; seq = refl; same = λ p. refl }))
