-- Bytes one after the other: those of two pieces are those of the one that they make together, and a header or zone that is there as a whole is
-- taken at once. So code may take whole zones from a piece and collect only what is cut.
-- Assumes nothing.
use Rattle.std.specs.Prelude.{Ok, Err}
use Prim.Native.Nat.{ℕ, suc, ◌+◌, ◌≤◌, ◌<◌}
use native.Mathlib.Omega.{arith}
use native.Mathlib.Numerals.{add-one}
use native.Mathlib.Nat.{add-zero}
use mathlib.Core.Path.{◌≡◌, refl, sym, ap, ◌∙◌}
use mathlib.Core.Bool.{Bool, true, false, cond}
use mathlib.Core.List.{List, [], ◌∷◌, ◌++◌}
use borrow.Author.Tests.{eq-eqb, ne_eqb}
use lib.Dec.{eqb}
use lib.ListN.{length, set, take, drop, take-append-drop, length-drop}
use lib.Seq.{sets, length-take-le, drop-drop}
use Rattle.types.specs.declared.Refusal.{Refusal}
use Rattle.types.specs.Answers.{Verdict}
use Rattle.zones.specs.Zone.{zone_bytes, zone_at}
use Rattle.report.specs.Report.{header_bytes}
use Rattle.intake.specs.declared.Rule.{Rule}
use Rattle.intake.specs.declared.Intake.{Intake}
use Rattle.intake.specs.Steps.{Taking, header_taken, zone_taken}
use Rattle.receiving.specs.Bytes.{Receiving, unit_bytes, complete, unit_taken, no_bytes, between, collected, extra, byte_after, byte_taken, fed}
use Rattle.receiving.proofs.Collected.{part_shows, zone-shows, header-shows}

-- a choice, once its test is known
first_of : {X : Type 0} {t : Bool} (x y : X) → t ≡ true → cond t x y ≡ x
first_of x y h = rw h

second_of : {X : Type 0} {t : Bool} (x y : X) → t ≡ false → cond t x y ≡ y
second_of x y h = rw h

-- TWO PIECES

-- two pieces do what the one does that they make together
pub fed_join : (r : Rule) (s : Receiving) (xs ys : List ℕ) → fed r s (xs ++ ys) ≡ fed r (fed r s xs) ys
unfolding fed
fed_join r s [] ys = refl
fed_join r s (x ∷ xs) ys = fed_join r (byte_taken r s x) xs ys

-- AFTER A REFUSAL nothing changes

pub fed_refused : (r : Rule) (s : Receiving) (cs : List ℕ) (x : Refusal) → s.received.intake.check ≡ Err x → fed r s cs ≡ s
unfolding fed byte_taken
fed_refused r s [] x h = refl
fed_refused r s (c ∷ cs) x h = ap (λ (v : Verdict). fed r (byte_after v r s c) cs) h ∙ fed_refused r s cs x h

-- AFTER THE LAST ZONE a byte is one too many

byte_extra : (r : Rule) (s : Receiving) (c : ℕ) → s.received.intake.check ≡ Ok tt → complete s.received.intake ≡ true → byte_taken r s c ≡ extra s
unfolding byte_taken
byte_extra r s c passed done = ap (λ (v : Verdict). byte_after v r s c) passed ∙ first_of (extra s) _ done

pub fed-extra : (r : Rule) (s : Receiving) (cs : List ℕ) → s.received.intake.check ≡ Ok tt → complete s.received.intake ≡ true → 0 < length cs
    → fed r s cs ≡ extra s
unfolding fed
fed-extra r s [] passed done some = absurd (omega arith)
fed-extra r s (c ∷ cs) passed done some = ap (λ (t : Receiving). fed r t cs) (byte_extra r s c passed done) ∙ fed_refused r (extra s) cs _ refl

-- A HEADER OR ZONE COMES NEXT

abbrev pub taking_of : Receiving → Taking
taking_of s = record { intake = s.received.intake; cnv = s.cnv; seq = s.seq }

-- with these bytes of it
abbrev pub with_part : Receiving → List ℕ → ℕ → Receiving
with_part s part held = record { received = record { intake = s.received.intake; part = part; held = held }; cnv = s.cnv; seq = s.seq }

module _ (r : Rule) (s : Receiving) (passed : s.received.intake.check ≡ Ok tt) (next : complete s.received.intake ≡ false) where
  byte_next : (c : ℕ) → byte_taken r s c ≡ collected r s (set s.received.part s.received.held c) (s.received.held + 1)
  unfolding byte_taken
  byte_next c = ap (λ (v : Verdict). byte_after v r s c) passed ∙ second_of (extra s) _ next

  byte_part : (c : ℕ) → s.received.held + 1 < unit_bytes s.received.intake
      → byte_taken r s c ≡ with_part s (set s.received.part s.received.held c) (suc s.received.held)
  unfolding collected
  byte_part c h =
      byte_next c
      ∙ second_of _ _ (ne_eqb (s.received.held + 1) (unit_bytes s.received.intake) (λ q. omega arith))
      ∙ ap (with_part s _) (add-one s.received.held)

  byte_last : (c : ℕ) → s.received.held + 1 ≡ unit_bytes s.received.intake
      → byte_taken r s c ≡ between (unit_taken r (taking_of s) (set s.received.part s.received.held c))
  unfolding collected
  byte_last c h = byte_next c ∙ first_of _ _ (eq-eqb (s.received.held + 1) (unit_bytes s.received.intake) h)

-- it isn't whole yet
pub fed_part : (r : Rule) (s : Receiving) (cs : List ℕ) → s.received.intake.check ≡ Ok tt → complete s.received.intake ≡ false
    → s.received.held + length cs < unit_bytes s.received.intake
    → fed r s cs ≡ with_part s (sets s.received.part s.received.held cs) (s.received.held + length cs)
unfolding fed
fed_part r s [] passed next h = ap (with_part s s.received.part) (sym (add-zero s.received.held))
fed_part r s (c ∷ cs) passed next h =
    let on : Receiving = with_part s (set s.received.part s.received.held c) (suc s.received.held) in
    ap (λ (t : Receiving). fed r t cs) (byte_part r s passed next c (omega arith))
    ∙ fed_part r on cs passed next (omega arith)
    ∙ ap (with_part s (sets s.received.part s.received.held (c ∷ cs))) (omega arith)

-- its last byte is among them
pub fed_unit : (r : Rule) (s : Receiving) (cs : List ℕ) → s.received.intake.check ≡ Ok tt → complete s.received.intake ≡ false
    → 0 < length cs → s.received.held + length cs ≡ unit_bytes s.received.intake
    → fed r s cs ≡ between (unit_taken r (taking_of s) (sets s.received.part s.received.held cs))
unfolding fed
fed_unit r s [] passed next some h = absurd (omega arith)
fed_unit r s (c ∷ []) passed next some h = byte_last r s passed next c h
fed_unit r s (c ∷ d ∷ cs) passed next some h =
    let on : Receiving = with_part s (set s.received.part s.received.held c) (suc s.received.held) in
    ap (λ (t : Receiving). fed r t (d ∷ cs)) (byte_part r s passed next c (omega arith)) ∙ fed_unit r on (d ∷ cs) passed next (omega arith) (omega arith)

-- A WHOLE ZONE, after one that is whole, is taken at once

pub fed-zone : (r : Rule) (t : Taking) (b : List ℕ) (at : ℕ) → t.intake.check ≡ Ok tt → eqb t.intake.count 0 ≡ false
    → complete t.intake ≡ false → at + zone_bytes ≤ length b
    → fed r (between t) (drop at b) ≡ fed r (between (zone_taken r t (zone_at t.intake.given b at))) (drop (at + zone_bytes) b)
unfolding unit_taken
fed-zone r t b at passed known next fits =
    let zone : List ℕ = take zone_bytes (drop at b) in
    let long : length zone ≡ zone_bytes = length-take-le zone_bytes (drop at b) (omega (arith, length-drop at b)) in
    let unit : unit_bytes t.intake ≡ zone_bytes = second_of header_bytes zone_bytes known in
    let taken : unit_taken r t (sets no_bytes 0 zone) ≡ zone_taken r t (zone_at t.intake.given b at) =
    second_of _ _ known ∙ ap (zone_taken r t) (zone-shows t.intake.given _ b at (λ i h. part_shows b at zone_bytes i (omega arith) fits h)) in
    ap (fed r (between t)) (sym (take-append-drop zone_bytes (drop at b)))
    ∙ fed_join r (between t) zone (drop zone_bytes (drop at b))
    ∙ ap (λ (s : Receiving). fed r s (drop zone_bytes (drop at b))) (fed_unit r (between t) zone passed next (omega arith) (omega arith) ∙ ap between taken)
    ∙ ap (fed r _) (drop-drop zone_bytes at b)

-- and so is a header
pub fed-header : (r : Rule) (t : Taking) (b : List ℕ) → t.intake.check ≡ Ok tt → t.intake.count ≡ 0 → header_bytes ≤ length b
    → fed r (between t) b ≡ fed r (between (record { intake = header_taken t.intake b; cnv = t.cnv; seq = t.seq })) (drop header_bytes b)
unfolding unit_taken
fed-header r t b passed none fits =
    let header : List ℕ = take header_bytes b in
    let long : length header ≡ header_bytes = length-take-le header_bytes b fits in
    let unknown : eqb t.intake.count 0 ≡ true = eq-eqb t.intake.count 0 none in
    let unit : unit_bytes t.intake ≡ header_bytes = first_of header_bytes zone_bytes unknown in
    let next : complete t.intake ≡ false = rw none in
    let taken : unit_taken r t (sets no_bytes 0 header) ≡ record { intake = header_taken t.intake b; cnv = t.cnv; seq = t.seq } =
    first_of _ _ unknown
    ∙ ap (λ (i : Intake). record { intake = i; cnv = t.cnv; seq = t.seq })
    (header-shows t.intake _ b (λ k h. part_shows b 0 header_bytes k (omega arith) (omega arith) h)) in
    ap (fed r (between t)) (sym (take-append-drop header_bytes b))
    ∙ fed_join r (between t) header (drop header_bytes b)
    ∙ ap (λ (s : Receiving). fed r s (drop header_bytes b)) (fed_unit r (between t) header passed next (omega arith) (omega arith) ∙ ap between taken)
