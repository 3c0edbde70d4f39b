-- Laws of a text's pieces.
-- Assumes nothing.
use Prim.Native.Nat.{ℕ}
use native.Mathlib.Omega.{arith}
use mathlib.Core.Path.{◌≡◌, refl, ◌∙◌, ap, sym}
use borrow.Author.Tests.{eqb-true, eqb-false}
use mathlib.Core.Bool.{true, false}
use mathlib.Core.List.{List, [], ◌∷◌}
use lib.ListN.{length}
use Rattle.options.specs.Options.{Options}
use Rattle.std.specs.List.{fold, slice_split, onto_first}
use lib.Dec.{eqb}
use Rattle.options.specs.Options.{comma, in_front, split, skip_empty, after_piece, after_pieces}

-- the library cuts a text at its commas as the definition does
onto_front : (x : ℕ) (pieces : List (List ℕ)) → onto_first x pieces ≡ in_front x pieces
onto_front x [] = refl
onto_front x (piece ∷ pieces) = refl

pieces_same : (text : List ℕ) → slice_split (λ b. eqb b comma) text ≡ split text
unfolding split
pieces_same [] = refl
pieces_same (x ∷ xs) = rw (pieces_same xs, onto_front x (split xs))

-- the first of the pieces, and then the others
one_piece : (options : Options) (piece : List ℕ) (pieces : List (List ℕ)) → after_pieces options (piece ∷ pieces) ≡ after_pieces (after_pieces options (piece ∷ [])) pieces
unfolding skip_empty
one_piece options [] pieces = refl
one_piece options (x ∷ xs) pieces = refl

-- so they may be taken one by one
abbrev pub taken : Options → List ℕ → Options
taken options piece = after_pieces options (piece ∷ [])

one_by_one : (options : Options) (pieces : List (List ℕ)) → fold taken options pieces ≡ after_pieces options pieces
unfolding skip_empty
one_by_one options [] = refl
one_by_one options (piece ∷ pieces) = one_by_one (taken options piece) pieces ∙ sym (one_piece options piece pieces)

pub pieces_taken : (options : Options) (text : List ℕ) → fold taken options (slice_split (λ b. eqb b comma) text) ≡ after_pieces options (split text)
pieces_taken options text = one_by_one options _ ∙ ap (after_pieces options) (pieces_same text)

-- an empty piece is skipped, and any other taken
pub empty_piece : (options : Options) (piece : List ℕ) → eqb (length piece) 0 ≡ true → after_pieces options (piece ∷ []) ≡ options
unfolding skip_empty
empty_piece options [] h = refl
empty_piece options (x ∷ xs) h = absurd (omega (arith, eqb-true _ 0 h))

pub full_piece : (options : Options) (piece : List ℕ) → eqb (length piece) 0 ≡ false → after_pieces options (piece ∷ []) ≡ after_piece options piece
unfolding skip_empty
full_piece options [] h = absurd (eqb-false 0 0 h refl)
full_piece options (x ∷ xs) h = refl
