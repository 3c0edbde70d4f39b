-- A part of a tape that was played: from its block and what is kept, and from the first four records and what is played after them.
-- Assumes nothing.
use mathlib.Core.Path.{◌≡◌, sym, ap, subst, ◌∙◌}
use mathlib.Core.List.{List, ◌++◌}
use mathlib.Core.Bool.{Bool, true}
use Prim.Native.Nat.{ℕ, ◌≤◌}
use native.Mathlib.Omega.{arith}
use native.Mathlib.Nat.{zero-add}
use lib.ListN.{length, take, drop, length-take, length-drop, take-append-drop, drop_of_length-le}
use lib.Seq.{sets, length-sets, take-take}
use Rattle.text.specs.Facts.{Put}
use Rattle.text.proofs.Stores.{then}
use Rattle.tape_lines.specs.Facts.{line_room}
use Rattle.tape_turns.specs.declared.Turned.{Turned}
use Rattle.tape_turns.specs.Turns.{Rest, open_turn}
use Rattle.tape_turns.specs.Facts.{rest_of, Takes}
use Rattle.tape_pieces.specs.declared.Kept.{Kept}
use Rattle.tape.specs.Blocks.{at_front, block_of}
use Rattle.tape.specs.Facts.{Plays}
use Rattle.tape_pieces.specs.Pieces.{Part, part_of, piece_of, first_part, next_part}
use Rattle.tape_pieces.specs.Facts.{front_turned, Keeps, Continues, holding_of}
use Rattle.tape.proofs.Stores.{first_part_lem}

pub keeps : {buffer kept before after cnv seq : List ℕ} {to left : ℕ} {played turned : Turned} (ended : Bool) (held : List ℕ) (room : ℕ) (r : Rest)
    → Plays (block_of ended held to room r) before after to played cnv seq → (to ≤ length before → played.to ≤ length before)
    → left ≡ length (drop played.next held) → kept ≡ sets buffer 0 (drop played.next held) → turned ≡ front_turned played
    → length held ≤ length buffer
    → Keeps (part_of ended held to room r) buffer kept before after to (record { turned = turned; left = left }) cnv seq
unfolding part_of
keeps {buffer} {kept} {before} {after} {cnv} {seq} {to} {left} {played} {turned} ended held room r p inside l f e fits =
    let t = block_of ended held to room r in
    let n : played.next ≡ t.rest.next = ap (λ (x : Rest). x.next) p.rest in
    record {
      lines = subst (λ (x : Turned). Put before after to x.to t.line) (sym e) p.lines;
      front = f ∙ ap (λ (k : ℕ). sets buffer 0 (drop k held)) n;
      held = l ∙ ap (λ (k : ℕ). length (drop k held)) n;
      rest = ap (λ (x : Turned). rest_of x cnv seq) e ∙ ap at_front p.rest;
      short = omega (arith, l, length-drop played.next held);
      inside = λ h. subst (λ (x : Turned). x.to ≤ length before) (sym e) (inside h);
    }

pub first_keeps : {buffer kept before mid after cnv' seq' cnv'' seq'' : List ℕ} {opened : Turned} {k : Kept} (ended : Bool) (held cnv seq : List ℕ)
    → Takes (open_turn held cnv seq) before mid 0 opened cnv' seq' → line_room ≤ length before
    → Keeps (part_of ended held opened.to (length mid) (rest_of opened cnv' seq')) buffer kept mid after opened.to k cnv'' seq''
    → Keeps (first_part (length before) (piece_of held ended) cnv seq) buffer kept before after 0 k cnv'' seq''
unfolding first_part part_of
first_keeps {buffer} {kept} {before} {mid} {after} {cnv'} {seq'} {cnv''} {seq''} {opened} {k} ended held cnv seq p wide q =
    let t = open_turn held cnv seq in
    let same : length mid ≡ length before = ap length p.line.bytes ∙ length-sets before 0 t.line in
    let to : opened.to ≡ length t.line = p.line.place ∙ zero-add (length t.line) in
    let e : part_of ended held opened.to (length mid) (rest_of opened cnv' seq') ≡ part_of ended held (length t.line) (length before) t.rest =
    ap (λ (n : ℕ). part_of ended held n (length mid) (rest_of opened cnv' seq')) to
    ∙ ap (λ (n : ℕ). part_of ended held (length t.line) n (rest_of opened cnv' seq')) same
    ∙ ap (part_of ended held (length t.line) (length before)) p.rest in
    let g = subst (λ x. Keeps x buffer kept mid after opened.to k cnv'' seq'') e q in
    record {
      lines = then p.line g.lines;
      front = g.front;
      held = g.held;
      rest = g.rest;
      short = g.short;
      inside = λ _. omega (arith, same, g.inside (omega (arith, same, wide, p.room)));
    }

-- ---- from a buffer that was read into

-- the bytes that are there are those that were there, and the piece behind them
behind : (before now : List ℕ) (have n : ℕ) → have ≤ n → take have now ≡ take have before → take n now ≡ take have before ++ drop have (take n now)
behind before now have n h e = sym (take-append-drop have (take n now)) ∙ ap (λ (l : List ℕ). l ++ drop have (take n now)) (take-take have n now h ∙ e)

pub continues : {buffer kept before after cnv' seq' : List ℕ} {r : Kept} (old cnv seq : List ℕ) (n : ℕ) (k : Kept) (ended was : Bool) (room : ℕ)
    → k.left ≤ n → take k.left buffer ≡ take k.left old → (was ≡ true → (n ≡ k.left) × (ended ≡ true))
    → Keeps (part_of ended (take n buffer) 0 room (rest_of k.turned cnv seq)) buffer kept before after 0 r cnv' seq'
    → Continues room (holding_of old was k cnv seq) ended kept before after r cnv' seq'
continues {buffer} {kept} {before} {after} {cnv'} {seq'} {r} old cnv seq n k ended was room h e over p =
    let piece = drop k.left (take n buffer) in
    let part = part_of ended (take n buffer) 0 room (rest_of k.turned cnv seq) in
    let same : part ≡ next_part room (holding_of old was k cnv seq) (piece_of piece ended) =
    ap (λ (l : List ℕ). part_of ended l 0 room (rest_of k.turned cnv seq)) (behind old buffer k.left n h e) in
    let fits : length part.held.bytes ≤ length buffer = omega (arith, p.held, p.short) in
    let front : take r.left kept ≡ part.held.bytes =
    ap (λ (m : ℕ). take m kept) p.held ∙ ap (take (length part.held.bytes)) p.front ∙ first_part_lem buffer part.held.bytes fits in
    record {
      bytes = piece;
      none = λ d. drop_of_length-le (take n buffer) {i = k.left} (omega (arith, (over d).0, length-take n buffer));
      still = λ d. (over d).1;
      lines = subst (λ (x : Part). Put before after 0 r.turned.to x.text) same p.lines;
      front = front ∙ ap (λ (x : Part). x.held.bytes) same;
      rest = p.rest ∙ ap (λ (x : Part). x.held.rest) same;
    }
