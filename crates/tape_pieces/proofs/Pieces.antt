-- THE PROGRAM: however a tape is handed over, the player writes its text, and gets on.
-- Assumes nothing.
use mathlib.Core.Path.{◌≡◌, refl, sym, ap, ◌∙◌}
use mathlib.Core.List.{List, [], ◌∷◌, ◌++◌, append_assoc, append-nil}
use mathlib.Core.Bool.{Bool, true, false, not, ◌&&◌, ◌||◌}
use Prim.Native.Nat.{ℕ, ◌+◌, ◌≤◌, ◌<◌}
use native.Mathlib.Omega.{arith}
use lib.Dec.{eqb, ltb}
use lib.ListN.{length, get_or, length-append, length-drop}
use borrow.Author.Tests.{eqb-true, le-ltb, lt-ltb, le-leb}
use Rattle.types.proofs.Tests.{both, and_left, and_right, cases}
use Rattle.tape_lines.specs.Facts.{line_room}
use Rattle.tape_turns.specs.Turns.{Rest, Turn, open_turn}
use Rattle.tape.specs.Tape.{text_with, no_rows, tape_text}
use Rattle.tape.specs.Blocks.{longest_record, is_told, is_ready, block_of}
use Rattle.tape_pieces.specs.Pieces.{Holding, Part, part_by, part_of, Piece, first_part, next_part, lines_from, held_after, joined, InOrder, longest_opening, is_through, WritesTape, GetsOn}
use Rattle.tape.proofs.Texts.{text_of, no_text, text_kept}
use Rattle.tape.proofs.Blocks.{Follows, Inside, block_text, block_inside, block_onward}
use Rattle.tape_pieces.proofs.Openings.{opening_follows, opening_inside}

-- ---- a part

-- the text of what is left begins with a part's lines, and goes on with the text of what is held
block_kept : (ended : Bool) (b f : List ℕ) (to room : ℕ) (r : Rest) → Follows ended f → Inside b r
    → text_of (b ++ f) r ≡ (block_of ended b to room r).line ++ text_of ((part_by ended b (block_of ended b to room r)).held.bytes ++ f) (part_by ended b (block_of ended b to room r)).held.rest
block_kept ended b f to room r p q =
    let t = block_of ended b to room r in
    block_text (length b) ended b f to room r p
    ∙ ap (λ (x : List ℕ). t.line ++ x) (text_kept b f t.rest (block_inside (length b) ended b to room r q))

part_text : (ended : Bool) (b f : List ℕ) (to room : ℕ) (r : Rest) → Follows ended f → Inside b r
    → text_of (b ++ f) r ≡ (part_of ended b to room r).text ++ text_of ((part_of ended b to room r).held.bytes ++ f) (part_of ended b to room r).held.rest
unfolding part_of
part_text ended b f to room r p q = block_kept ended b f to room r p q

part_front : (ended : Bool) (b : List ℕ) (to room : ℕ) (r : Rest) → (part_of ended b to room r).held.rest.next ≡ 0
unfolding part_of
part_front ended b to room r = refl

part_ended : (ended : Bool) (b : List ℕ) (to room : ℕ) (r : Rest) → (part_of ended b to room r).held.ended ≡ ended
unfolding part_of
part_ended ended b to room r = refl

-- ---- part by part

-- what a part has written, and the text of what is held and of the pieces to come
abbrev due : Part → List ℕ → List ℕ
due p f = p.text ++ text_of (p.held.bytes ++ f) p.held.rest

rest_text : (room : ℕ) (p : Part) (xs : List Piece) (unread : List ℕ) → p.held.rest.next ≡ 0 → InOrder xs unread
    → due p (joined xs ++ unread) ≡ lines_from room p xs ++ text_of ((held_after room p xs).bytes ++ unread) (held_after room p xs).rest
unfolding joined InOrder lines_from held_after
rest_text room p [] unread z o = refl
rest_text room p (x ∷ xs) unread z o =
    let h = p.held in
    let f = joined xs ++ unread in
    let q = next_part room h x in
    let all : h.bytes ++ ((x.bytes ++ joined xs) ++ unread) ≡ (h.bytes ++ x.bytes) ++ f =
    ap (λ (l : List ℕ). h.bytes ++ l) (append_assoc x.bytes (joined xs) unread) ∙ sym (append_assoc h.bytes x.bytes f) in
    ap (λ (l : List ℕ). p.text ++ text_of l h.rest) all
    ∙ ap (λ (l : List ℕ). p.text ++ l) (part_text x.last (h.bytes ++ x.bytes) f 0 room h.rest o.0 (λ _. omega (arith, z)))
    ∙ ap (λ (l : List ℕ). p.text ++ l) (rest_text room q xs unread (part_front x.last (h.bytes ++ x.bytes) 0 room h.rest) o.1)
    ∙ sym (append_assoc p.text (lines_from room q xs) _)

nothing_unread : (room : ℕ) (p : Part) (xs : List Piece) (unread : List ℕ) → (p.held.ended ≡ true → joined xs ++ unread ≡ []) → InOrder xs unread
    → (held_after room p xs).ended ≡ true → unread ≡ []
unfolding joined InOrder held_after
nothing_unread room p [] unread f o e = f e
nothing_unread room p (x ∷ xs) unread f o e =
    let h = p.held in
    nothing_unread room (next_part room h x) xs unread (λ k. o.0 (sym (part_ended x.last (h.bytes ++ x.bytes) 0 room h.rest) ∙ k)) o.1 e

-- ---- the first piece

opening-same : (x : Piece) (f cnv seq : List ℕ) → Follows x.last f → ((i : ℕ) → get_or x.bytes i 0 < 256) → (x.last ≡ false → longest_opening ≤ length x.bytes)
    → open_turn (x.bytes ++ f) cnv seq ≡ open_turn x.bytes cnv seq
opening-same x f cnv seq p small long =
    cases x.last
    (λ e. ap (λ (l : List ℕ). open_turn (x.bytes ++ l) cnv seq) (p e) ∙ ap (λ (l : List ℕ). open_turn l cnv seq) (append-nil x.bytes))
    (λ e. opening_follows x.bytes f (long e) small cnv seq)

first_text : (room : ℕ) (x : Piece) (f cnv seq : List ℕ) → Follows x.last f → ((i : ℕ) → get_or x.bytes i 0 < 256) → (x.last ≡ false → longest_opening ≤ length x.bytes)
    → text_with (x.bytes ++ f) cnv seq ≡ due (first_part room x cnv seq) f
unfolding text_with first_part
first_text room x f cnv seq p small long =
    let b = x.bytes in
    let t = open_turn b cnv seq in
    let to = length t.line in
    ap (λ (o : Turn). o.line ++ text_of (b ++ f) o.rest) (opening-same x f cnv seq p small long)
    ∙ ap (λ (l : List ℕ). t.line ++ l) (block_kept x.last b f to room t.rest p (opening_inside b cnv seq))
    ∙ sym (append_assoc t.line (block_of x.last b to room t.rest).line _)

first_front : (room : ℕ) (x : Piece) (cnv seq : List ℕ) → ((first_part room x cnv seq).held.rest.next ≡ 0) × ((first_part room x cnv seq).held.ended ≡ x.last)
unfolding first_part
first_front room x cnv seq = (refl, refl)

-- ---- at the end

-- a player that stops holds nothing that has a text
over_text : (h : Holding) (unread : List ℕ) → (h.ended ≡ true → unread ≡ []) → is_through h ≡ true → text_of (h.bytes ++ unread) h.rest ≡ []
over_text h unread f e = no_text (length (h.bytes ++ unread)) (h.bytes ++ unread) h.rest (by h.rest.more e)
  where
    by : (t : Bool) → not t || (h.ended && eqb (length h.bytes) 0) ≡ true → t && ltb h.rest.next (length (h.bytes ++ unread)) ≡ false
    by false d = refl
    by true d = le-ltb h.rest.next (length (h.bytes ++ unread)) (omega (arith, length-append h.bytes unread, ap length (f (and_left h.ended _ d)), eqb-true (length h.bytes) 0 (and_right h.ended _ d)))

pub writes_tape : WritesTape
unfolding WritesTape tape_text joined InOrder
writes_tape room x xs unread h =
    let p = first_part room x no_rows no_rows in
    let f = joined xs ++ unread in
    let o = h.order in
    let held = held_after room p xs in
    let lines = lines_from room p xs in
    let rest = text_of (held.bytes ++ unread) held.rest in
    let all : lines ++ rest ≡ text_with ((x.bytes ++ joined xs) ++ unread) no_rows no_rows =
    sym (rest_text room p xs unread (first_front room x no_rows no_rows).0 o.1)
    ∙ sym (first_text room x f no_rows no_rows o.0 h.bytes h.opening)
    ∙ ap (λ (l : List ℕ). text_with l no_rows no_rows) (sym (append_assoc x.bytes (joined xs) unread)) in
    let none : held.ended ≡ true → unread ≡ [] =
    nothing_unread room p xs unread (λ e. o.0 (sym (first_front room x no_rows no_rows).1 ∙ e)) o.1 in
    record {
      due = rest;
      beginning = all;
      whole = λ e. sym (append-nil lines) ∙ ap (λ (l : List ℕ). lines ++ l) (sym (over_text held unread none e)) ∙ all;
    }

-- ---- it gets on

pub gets_on : GetsOn
unfolding GetsOn part_of
gets_on room h x wide more front some enough e =
    let b = h.bytes ++ x.bytes in
    let told : is_told x.last (length b) h.rest.next ≡ true =
    cases x.last (λ d. rw d) (λ d. rw d (le-leb (h.rest.next + longest_record) (length b) (omega (arith, enough d)))) in
    let ready : is_ready h.rest.more h.rest.next x.last (length b) 0 room ≡ true =
    both (both more (lt-ltb h.rest.next (length b) (omega arith))) (both told (le-leb line_room room wide)) in
    omega (arith, length-drop (block_of x.last b 0 room h.rest).rest.next b, block_onward (length b) x.last b 0 room h.rest some ready e)
