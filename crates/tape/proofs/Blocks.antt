-- A block of records is a beginning of the tape's text, whatever follows the bytes that are there; and what is kept is the rest of it.
-- Assumes nothing.
use Rattle.std.specs.Prelude.{None}
use mathlib.Core.Path.{◌≡◌, refl, sym, ap, ◌∙◌}
use mathlib.Core.List.{List, [], ◌++◌, append_assoc, append-nil}
use mathlib.Core.Bool.{Bool, true, false, cond, false≢true}
use Prim.Native.Nat.{ℕ, zero, suc, ◌+◌, ◌≤◌, ◌<◌}
use native.Mathlib.Omega.{arith}
use lib.ListN.{length, length-append}
use borrow.Author.Tests.{lt-ltb, leb-true}
use Rattle.types.proofs.Tests.{both, and_left, and_right, cases}
use Rattle.tape_records.specs.declared.Mark.{Mark}
use Rattle.tape_records.specs.declared.Mark.TheVariants as mark
use Rattle.tape_records.specs.Records.{holds, record_bytes, record_of, mark_at, marked_at, record_at}
use Rattle.tape_lines.specs.Facts.{line_room}
use Rattle.engine.specs.Engine.{State}
use Rattle.tape_turns.specs.Turns.{Rest, Turn, turn_of, turn_at}
use Rattle.tape.specs.Tape.{goes_further}
use Rattle.tape.specs.Blocks.{longest_record, is_told, is_ready, block_from}
use Rattle.tape.proofs.Windows.{turn_follows}
use Rattle.tape.proofs.Texts.{text_of, onward, inside, text_next}

-- ---- a record that can be told

-- what follows the bytes that are there: nothing, if they are the last
abbrev pub Follows : Bool → List ℕ → Type 0
Follows ended f = ended ≡ true → f ≡ []

told_by : (ended : Bool) (b f : List ℕ) (at : ℕ) (s : State) → Follows ended f → is_told ended (length b) at ≡ true → turn_at (b ++ f) at s ≡ turn_at b at s
told_by true b f at s p e = rw (p refl, append-nil b)
told_by false b f at s p e = turn_follows b f at s (leb-true (at + longest_record) (length b) e)

-- the parts of "ready"
module _ (r : Rest) (ended : Bool) (b : List ℕ) (to room : ℕ) (e : is_ready r.more r.next ended (length b) to room ≡ true) where
  pub ready_further : goes_further b r ≡ true
  ready_further = and_left (goes_further b r) _ e

  ready_told : is_told ended (length b) r.next ≡ true
  ready_told = and_left (is_told ended (length b) r.next) _ (and_right (goes_further b r) _ e)

  pub ready_room : to + line_room ≤ room
  ready_room = leb-true (to + line_room) room (and_right (is_told ended (length b) r.next) _ (and_right (goes_further b r) _ e))

  further_still : (f : List ℕ) → goes_further (b ++ f) r ≡ true
  further_still f =
      both (and_left r.more _ ready_further)
      (lt-ltb r.next (length (b ++ f)) (omega (arith, inside b r ready_further, length-append b f)))

  -- the text of what is left begins with the line of a record that is ready
  ready_text : (f : List ℕ) → Follows ended f
      → text_of (b ++ f) r ≡ (turn_at b r.next r.state).line ++ text_of (b ++ f) (turn_at b r.next r.state).rest
  ready_text f p =
      text_next (b ++ f) r (further_still f)
      ∙ ap (λ (t : Turn). t.line ++ text_of (b ++ f) t.rest) (told_by ended b f r.next r.state p ready_told)

-- ---- a block

-- the text of what is left begins with a block's lines, and goes on with the text of the rest
pub block_text : (n : ℕ) (ended : Bool) (b f : List ℕ) (to room : ℕ) (r : Rest) → Follows ended f
    → text_of (b ++ f) r ≡ (block_from n ended b to room r).line ++ text_of (b ++ f) (block_from n ended b to room r).rest
unfolding block_from
block_text zero ended b f to room r p = refl
block_text (suc n) ended b f to room r p =
    let t = turn_at b r.next r.state in
    let rest = block_from n ended b (to + length t.line) room t.rest in
    cases (is_ready r.more r.next ended (length b) to room)
    (λ e. rw e
    (ready_text r ended b to room e f p
    ∙ ap (λ (x : List ℕ). t.line ++ x) (block_text n ended b f (to + length t.line) room t.rest p)
    ∙ sym (append_assoc t.line rest.line (text_of (b ++ f) rest.rest))))
    (λ e. rw e)

-- ---- where it ends

-- the next record stands at the end of the bytes that are there, or before it
abbrev pub Inside : List ℕ → Rest → Type 0
Inside b r = r.more ≡ true → r.next ≤ length b

turn_inside_by : (b : List ℕ) (at : ℕ) (s : State) (m : Mark) → Inside b (turn_of b at s (marked_at m b at)).rest
turn_inside_by b at s m = by m (holds (record_bytes m) b at) refl
  where
    by : (m : Mark) (t : Bool) → holds (record_bytes m) b at ≡ t → Inside b (turn_of b at s (cond t (record_of m b at) None)).rest
    by m false e h = absurd (false≢true h)
    by mark.Read true e h = leb-true _ _ e
    by mark.Write true e h = leb-true _ _ e
    by mark.Truncate true e h = leb-true _ _ e
    by mark.Flush true e h = leb-true _ _ e
    by mark.Open true e h = leb-true _ _ e
    by mark.Close true e h = leb-true _ _ e
    by mark.Good true e h = leb-true _ _ e
    by mark.Failed true e h = leb-true _ _ e
    by mark.Unknown true e h = absurd (false≢true h)

pub turn_inside : (b : List ℕ) (at : ℕ) (s : State) → Inside b (turn_at b at s).rest
unfolding turn_at record_at
turn_inside b at s = turn_inside_by b at s (mark_at b at)

pub block_inside : (n : ℕ) (ended : Bool) (b : List ℕ) (to room : ℕ) (r : Rest) → Inside b r → Inside b (block_from n ended b to room r).rest
unfolding block_from
block_inside zero ended b to room r p = p
block_inside (suc n) ended b to room r p =
    let t = turn_at b r.next r.state in
    cases (is_ready r.more r.next ended (length b) to room)
    (λ e. rw e (block_inside n ended b (to + length t.line) room t.rest (turn_inside b r.next r.state)))
    (λ e. rw e p)

-- ---- it gets on

-- after a stop nothing is played
block_stopped : (n : ℕ) (ended : Bool) (b : List ℕ) (to room : ℕ) (r : Rest) → (block_from n ended b to room r).rest.more ≡ true → r.more ≡ true
unfolding block_from
block_stopped zero ended b to room r h = h
block_stopped (suc n) ended b to room r h =
    cases (is_ready r.more r.next ended (length b) to room)
    (λ e. and_left r.more _ (ready_further r ended b to room e))
    (λ e. rw e at h)

-- the next record is no earlier than the one that a block began with, and later if that was ready
block_no_less : (n : ℕ) (ended : Bool) (b : List ℕ) (to room : ℕ) (r : Rest) → (block_from n ended b to room r).rest.more ≡ true
    → r.next ≤ (block_from n ended b to room r).rest.next
unfolding block_from
block_no_less zero ended b to room r h = omega arith
block_no_less (suc n) ended b to room r h =
    let t = turn_at b r.next r.state in
    let end = to + length t.line in
    cases (is_ready r.more r.next ended (length b) to room)
    (λ e. let k = rw e at h in
    rw e (omega (arith, block_no_less n ended b end room t.rest k, onward b r.next r.state (block_stopped n ended b end room t.rest k))))
    (λ e. rw e (omega arith))

pub block_onward : (n : ℕ) (ended : Bool) (b : List ℕ) (to room : ℕ) (r : Rest) → 0 < n → is_ready r.more r.next ended (length b) to room ≡ true
    → (block_from n ended b to room r).rest.more ≡ true → r.next < (block_from n ended b to room r).rest.next
unfolding block_from
block_onward zero ended b to room r some e h = absurd (omega arith)
block_onward (suc n) ended b to room r some e h =
    let t = turn_at b r.next r.state in
    let end = to + length t.line in
    let k = rw e at h in
    rw e (omega (arith, block_no_less n ended b end room t.rest k, onward b r.next r.state (block_stopped n ended b end room t.rest k)))
