-- The text of the rest of a tape: record by record, and from a part of the tape.
-- Assumes nothing.
use Rattle.std.specs.Prelude.{Option, Some, None}
use mathlib.Core.Path.{◌≡◌, refl, sym, ap, subst, ◌∙◌}
use mathlib.Core.List.{List, [], ◌++◌}
use mathlib.Core.Bool.{Bool, true, false, cond, false≢true, ◌&&◌}
use Prim.Native.Nat.{ℕ, zero, suc, ◌+◌, ◌-◌, ◌≤◌, ◌<◌}
use native.Mathlib.Omega.{arith}
use native.Mathlib.Nat.{add-zero}
use lib.Dec.{ltb}
use lib.ListN.{length, drop, length-append, length-drop}
use lib.Seq.{drop-append-le}
use borrow.Author.Tests.{ltb-true, ltb-false, lt-ltb, le-ltb}
use Rattle.types.proofs.Tests.{and_left, and_right, cases}
use Rattle.tape_records.specs.declared.Record.{Record}
use Rattle.tape_records.specs.declared.Record.TheVariants.{OnFile, End}
use Rattle.tape_records.specs.Records.{record_at}
use Rattle.engine.specs.Engine.{State}
use Rattle.tape_turns.specs.Turns.{Rest, turn_of, turn_at}
use Rattle.tape.specs.Tape.{goes_further, text_from}
use Rattle.tape.specs.Blocks.{at_front}
use Rattle.tape.proofs.Windows.{turn_before}

-- ---- record by record

-- the text of all that is left
abbrev pub text_of : List ℕ → Rest → List ℕ
text_of b r = text_from (length b) b r

-- a record after which the tape goes on isn't empty
onward_by : (b : List ℕ) (at : ℕ) (s : State) (x : Option Record) → (turn_of b at s x).rest.more ≡ true → at < (turn_of b at s x).rest.next
onward_by b at s (Some (OnFile kind number x)) e = omega arith
onward_by b at s (Some (End kind number true)) e = omega arith
onward_by b at s (Some (End kind number false)) e = omega arith
onward_by b at s None e = absurd (false≢true e)

pub onward : (b : List ℕ) (at : ℕ) (s : State) → (turn_at b at s).rest.more ≡ true → at < (turn_at b at s).rest.next
unfolding turn_at
onward b at s e = onward_by b at s (record_at b at) e

-- so many records are allowed for that none is left out
abbrev pub Enough : ℕ → List ℕ → Rest → Type 0
Enough n b r = r.more ≡ true → length b ≤ r.next + n

pub inside : (b : List ℕ) (r : Rest) → goes_further b r ≡ true → r.next < length b
inside b r e = ltb-true r.next (length b) (and_right r.more _ e)

pub next_enough : (n : ℕ) (b : List ℕ) (r : Rest) → Enough (suc n) b r → goes_further b r ≡ true → Enough n b (turn_at b r.next r.state).rest
next_enough n b r p e h = omega (arith, p (and_left r.more _ e), onward b r.next r.state h)

stops : (b : List ℕ) (r : Rest) → Enough zero b r → goes_further b r ≡ false
stops b r p = cases (goes_further b r) (λ e. absurd (none_left e)) (λ e. e)
  where
    none_left : goes_further b r ≡ true → ⊥
    none_left e = omega (arith, p (and_left r.more _ e), inside b r e)

pub no_text : (n : ℕ) (b : List ℕ) (r : Rest) → goes_further b r ≡ false → text_from n b r ≡ []
unfolding text_from
no_text zero b r e = refl
no_text (suc n) b r e = rw e

next_text : (n : ℕ) (b : List ℕ) (r : Rest) → goes_further b r ≡ true
    → text_from (suc n) b r ≡ (turn_at b r.next r.state).line ++ text_from n b (turn_at b r.next r.state).rest
unfolding text_from
next_text n b r e = rw e

-- then it doesn't matter how many
no_matter : (m n : ℕ) (b : List ℕ) (r : Rest) → Enough m b r → Enough n b r → text_from m b r ≡ text_from n b r
no_matter zero n b r p q = no_text zero b r (stops b r p) ∙ sym (no_text n b r (stops b r p))
no_matter (suc m) zero b r p q = no_text (suc m) b r (stops b r q) ∙ sym (no_text zero b r (stops b r q))
no_matter (suc m) (suc n) b r p q =
    let t = turn_at b r.next r.state in
    cases (goes_further b r)
    (λ e. next_text m b r e ∙ ap (λ (x : List ℕ). t.line ++ x) (no_matter m n b t.rest (next_enough m b r p e) (next_enough n b r q e)) ∙ sym (next_text n b r e))
    (λ e. no_text (suc m) b r e ∙ sym (no_text (suc n) b r e))

-- the text of what is left is the next record's line, and the text of what is left then
pub text_next : (b : List ℕ) (r : Rest) → goes_further b r ≡ true
    → text_of b r ≡ (turn_at b r.next r.state).line ++ text_of b (turn_at b r.next r.state).rest
text_next b r e = no_matter (length b) (suc (length b)) b r (λ _. omega arith) (λ _. omega arith) ∙ next_text (length b) b r e

-- ---- how much can be left

abbrev pub left : List ℕ → Rest → ℕ
left b r = cond r.more (suc (length b - r.next)) 0

pub left_less : (b : List ℕ) (r after : Rest) → goes_further b r ≡ true → (after.more ≡ true → r.next < after.next) → left b after < left b r
left_less b r after e f = subst (λ (n : ℕ). left b after < n) (sym all) (by after.more f)
  where
    all : left b r ≡ suc (length b - r.next)
    all = ap (λ (t : Bool). cond t (suc (length b - r.next)) 0) (and_left r.more _ e)

    by : (t : Bool) → (t ≡ true → r.next < after.next) → cond t (suc (length b - after.next)) 0 < suc (length b - r.next)
    by true g = omega (arith, g refl, inside b r e)
    by false g = omega arith

-- ---- from a part of the tape

-- the rest of a tape that stands so many bytes further on
abbrev further : ℕ → Rest → Rest
further k r = record { more = r.more; next = k + r.next; state = r.state }

goes_before : (b : List ℕ) (k : ℕ) (r : Rest) → k ≤ length b → goes_further b (further k r) ≡ goes_further (drop k b) r
goes_before b k r h =
    ap (λ (t : Bool). r.more && t)
    (cases (ltb r.next (length (drop k b)))
    (λ e. lt-ltb (k + r.next) (length b) (omega (arith, ltb-true r.next (length (drop k b)) e, length-drop k b)) ∙ sym e)
    (λ e. le-ltb (k + r.next) (length b) (omega (arith, ltb-false r.next (length (drop k b)) e, length-drop k b)) ∙ sym e))

text_before : (n : ℕ) (b : List ℕ) (k : ℕ) (r : Rest) → k ≤ length b → text_from n b (further k r) ≡ text_from n (drop k b) r
unfolding text_from
text_before zero b k r h = refl
text_before (suc n) b k r h =
    let t = turn_at (drop k b) r.next r.state in
    rw (goes_before b k r h, turn_before b k r.next r.state h, text_before n b k t.rest h)

-- the bytes before the next record may go
pub text_kept : (b f : List ℕ) (r : Rest) → (r.more ≡ true → r.next ≤ length b) → text_of (b ++ f) r ≡ text_of (drop r.next b ++ f) (at_front r)
text_kept b f r p = cases r.more there gone
  where
    gone : r.more ≡ false → text_of (b ++ f) r ≡ text_of (drop r.next b ++ f) (at_front r)
    gone e =
        no_text (length (b ++ f)) (b ++ f) r (rw e)
        ∙ sym (no_text (length (drop r.next b ++ f)) (drop r.next b ++ f) (at_front r) (rw e))

    there : r.more ≡ true → text_of (b ++ f) r ≡ text_of (drop r.next b ++ f) (at_front r)
    there e =
        let k = r.next in
        let h : k ≤ length b = p e in
        let l : length (drop k b ++ f) ≤ length (b ++ f) = omega (arith, length-append b f, length-append (drop k b) f, length-drop k b) in
        ap (λ (n : ℕ). text_from (length (b ++ f)) (b ++ f) (record { more = r.more; next = n; state = r.state })) (sym (add-zero k))
        ∙ text_before (length (b ++ f)) (b ++ f) k (at_front r) (omega (arith, length-append b f))
        ∙ ap (λ (x : List ℕ). text_from (length (b ++ f)) x (at_front r)) (drop-append-le k b f h)
        ∙ no_matter (length (b ++ f)) (length (drop k b ++ f)) (drop k b ++ f) (at_front r) (λ _. omega (arith, l)) (λ _. omega arith)
