-- The claim: a text that is read byte after byte gives what the definition says of its pieces.
-- Assumes nothing.
use Rattle.std.specs.Prelude.{Some, None}
use Prim.Native.Nat.{ℕ, suc, ◌+◌, ◌≤◌, ◌<◌}
use native.Mathlib.Omega.{arith}
use mathlib.Core.Bool.{Bool, true, false, cond}
use mathlib.Core.Path.{◌≡◌, refl, ◌∙◌, ap, sym}
use mathlib.Core.List.{List, [], ◌∷◌, ◌++◌, append-nil, append_assoc, flatten}
use lib.ListN.{length, length-append, take, drop, take-append-drop}
use lib.Dec.{leb, eqb, eqb-suc-zero}
use borrow.Author.Tests.{le-leb, lt-leb, leb-true, leb-false, eqb-false}
use Rattle.options.specs.Options.{Options}
use Rattle.options.specs.declared.reading.Reading.{Reading}
use Rattle.options.specs.Options.{most_bytes, comma, in_front, split, skip_empty, piece_of, after_piece, after_pieces, by_default, options_of}
use Rattle.options.specs.Reading.{words, piece_among, and_piece, counted, started, piece_ended, next_piece, one_more, byte_taken, part_taken, answered, ReadInParts}
use Rattle.options.proofs.Parts.{part_join, parts_join}
use Rattle.options.proofs.Words.{beginning, going_on_lem, word_whole, begun}

-- ---- pieces: the bytes p in front of the first of them, and the first one alone

in_front_all : List ℕ → List (List ℕ) → List (List ℕ)
in_front_all p [] = p ∷ []
in_front_all p (piece ∷ pieces) = (p ++ piece) ∷ pieces

one_more_lem : (p : List ℕ) (x : ℕ) (pieces : List (List ℕ)) → in_front_all (p ++ (x ∷ [])) pieces ≡ in_front_all p (in_front x pieces)
unfolding in_front_all
one_more_lem p x [] = refl
one_more_lem p x (piece ∷ pieces) = rw (append_assoc p (x ∷ []) piece)

-- a text has a first piece
with_first : (x : ℕ) (pieces : List (List ℕ)) → in_front_all [] (in_front x pieces) ≡ in_front x pieces
unfolding in_front_all
with_first x [] = refl
with_first x (piece ∷ pieces) = refl

nothing_more : (text : List ℕ) → in_front_all [] (split text) ≡ split text
unfolding in_front_all split
nothing_more [] = refl
nothing_more (x ∷ xs) = by (eqb x comma) where
  by : (t : Bool) → in_front_all [] (cond t ([] ∷ split xs) (in_front x (split xs))) ≡ cond t ([] ∷ split xs) (in_front x (split xs))
  by true = refl
  by false = with_first x (split xs)

one_piece : (options : Options) (piece : List ℕ) (pieces : List (List ℕ)) → after_pieces options (piece ∷ pieces) ≡ after_pieces (after_pieces options (piece ∷ [])) pieces
unfolding skip_empty
one_piece options [] pieces = refl
one_piece options (x ∷ xs) pieces = refl

-- ---- what is held after n bytes: p is the piece so far, and `before` what the pieces before it ask for
holding : Options → List ℕ → ℕ → Reading
holding before p n = record { bytes = n; candidates = beginning p words; place = length p; so_far = before }

-- the list of words says what the definition's tests say
same_piece : (before : Options) (p : List ℕ) → and_piece before (piece_among words p) ≡ after_piece before p
unfolding words piece_among piece_of
same_piece None p = refl
same_piece (Some a) p = refl

ended : (before : Options) (p : List ℕ) (n : ℕ) → (next_piece (holding before p n)).so_far ≡ after_pieces before (p ∷ [])
unfolding piece_ended holding skip_empty
ended before [] n = refl
ended before (x ∷ xs) n = rw (eqb-suc-zero (length xs), word_whole (x ∷ xs)) (same_piece before (x ∷ xs))

comma_taken : (before : Options) (p : List ℕ) (n x : ℕ) → n < most_bytes → eqb x comma ≡ true → byte_taken (holding before p n) x ≡ holding (after_pieces before (p ∷ [])) [] (n + 1)
unfolding byte_taken holding
comma_taken before p n x h e = rw (e, le-leb n most_bytes (omega arith), ← begun, ← ended before p n)

letter_taken : (before : Options) (p : List ℕ) (n x : ℕ) → n < most_bytes → length p ≤ n → eqb x comma ≡ false → byte_taken (holding before p n) x ≡ holding before (p ++ (x ∷ [])) (n + 1)
unfolding byte_taken holding
letter_taken before p n x h g e =
    rw (e, le-leb n most_bytes (omega arith), le-leb (length p) most_bytes (omega arith), going_on_lem x (eqb-false x comma e) p words, length-append p (x ∷ []))

answered_now : (before : Options) (p : List ℕ) (n : ℕ) → n ≤ most_bytes → answered (holding before p n) ≡ after_pieces before (p ∷ [])
unfolding answered holding
answered_now before p n h = rw (le-leb n most_bytes h) (ended before p n)

-- ---- the bytes that are left
reads_on : (before : Options) (p : List ℕ) (n : ℕ) (text : List ℕ) → n + length text ≤ most_bytes → length p ≤ n
    → answered (part_taken (holding before p n) text) ≡ after_pieces before (in_front_all p (split text))
unfolding part_taken split in_front_all
reads_on before p n [] h g = answered_now before p n (omega arith) ∙ ap (λ (q : List ℕ). after_pieces before (q ∷ [])) (sym (append-nil p))
reads_on before p n (x ∷ xs) h g = by (eqb x comma) refl (λ before' p' g'. reads_on before' p' (n + 1) xs (omega arith) g') where
  by : (t : Bool) → eqb x comma ≡ t
      → ((before : Options) (p : List ℕ) → length p ≤ n + 1 → answered (part_taken (holding before p (n + 1)) xs) ≡ after_pieces before (in_front_all p (split xs)))
      → answered (part_taken (byte_taken (holding before p n) x) xs) ≡ after_pieces before (in_front_all p (cond t ([] ∷ split xs) (in_front x (split xs))))
  by true e rest =
      let past = after_pieces before (p ∷ []) in
      ap (λ (r : Reading). answered (part_taken r xs)) (comma_taken before p n x (omega arith) e)
      ∙ rest past [] (omega arith)
      ∙ ap (after_pieces past) (nothing_more xs)
      ∙ sym (one_piece before p (split xs))
      ∙ ap (λ (q : List ℕ). after_pieces before (q ∷ split xs)) (sym (append-nil p))
  by false e rest =
      ap (λ (r : Reading). answered (part_taken r xs)) (letter_taken before p n x (omega arith) (omega arith) e)
      ∙ rest before (p ++ (x ∷ [])) (rw (length-append p (x ∷ [])) (omega arith))
      ∙ ap (after_pieces before) (one_more_lem p x (split xs))

-- ---- a text that is too long: its bytes are counted up to that, and no further

byte_counted : (r : Reading) (x : ℕ) → (byte_taken r x).bytes ≡ counted r.bytes
unfolding byte_taken
byte_counted r x = by (eqb x comma) where
  by : (t : Bool) → (cond {A = Reading} t (next_piece r) (one_more r x)).bytes ≡ counted r.bytes
  by true = refl
  by false = refl

still_above : (n rest : ℕ) → most_bytes < n + suc rest → most_bytes < counted n + rest
still_above n rest h = by (leb n most_bytes) refl where
  by : (t : Bool) → leb n most_bytes ≡ t → most_bytes < cond t (n + 1) n + rest
  by true e = omega arith
  by false e = omega (arith, leb-false n most_bytes e)

too_many : (r : Reading) (text : List ℕ) → most_bytes < r.bytes + length text → most_bytes < (part_taken r text).bytes
unfolding part_taken
too_many r [] h = omega arith
too_many r (x ∷ xs) h = too_many (byte_taken r x) xs (rw (byte_counted r x) (still_above r.bytes (length xs) h))

refused : (r : Reading) → most_bytes < r.bytes → answered r ≡ None
unfolding answered
refused r h = rw (lt-leb r.bytes most_bytes h)

-- ---- the whole text

started-holding : started ≡ holding (Some by_default) [] 0
unfolding holding
started-holding = rw begun

reads_whole : (text : List ℕ) → answered (part_taken started text) ≡ options_of text
unfolding options_of
reads_whole text = by (leb (length text) most_bytes) refl where
  by : (t : Bool) → leb (length text) most_bytes ≡ t → answered (part_taken started text) ≡ cond t (after_pieces (Some by_default) (split text)) None
  by true e =
      ap (λ (r : Reading). answered (part_taken r text)) started-holding
      ∙ reads_on (Some by_default) [] 0 text (omega (arith, leb-true (length text) most_bytes e)) (omega arith)
      ∙ ap (after_pieces (Some by_default)) (nothing_more text)
  by false e = refused (part_taken started text) (too_many started text (omega (arith, leb-false (length text) most_bytes e)))

pub reads_in_parts : ReadInParts
reads_in_parts =
    record {
      two_parts = part_join;
      any_parts = parts_join;
      whole = reads_whole;
      cut = λ text k. ap answered (part_join started (take k text) (drop k text)) ∙ reads_whole (take k text ++ drop k text) ∙ ap options_of (take-append-drop k text);
      in_parts = λ parts. ap answered (parts_join started parts) ∙ reads_whole (flatten parts);
    }
