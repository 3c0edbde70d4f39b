-- The mount options: "up to 255 bytes, pieces split by commas, empty pieces skipped, each `errors=` with `remount-ro`, `zone-ro`,
-- `zone-offline` or `repair`; the last wins; default remount-ro". 02: "Accept the option `explicit-open`".
use Rattle.std.specs.Prelude.{ℕ, true, false, cond, length, leb, eqb, Option, Some, None}
use Prim.Native.Char.{code}
use mathlib.Core.List.{List, [], ◌∷◌, foldl}
use Rattle.text.specs.Text.{ascii, same}
use Rattle.types.specs.declared.ErrorPolicy.TheVariants.{RemountRo, ZoneRo, ZoneOffline, Repair}
use Rattle.types.specs.declared.Refusal.TheVariants.{BadOptions}
use Rattle.types.specs.Codes.{flag_code, policy_code}
use Rattle.types.specs.Numbers.{refusal_number}
use Rattle.options.specs.declared.Asked.{Asked}
use Rattle.options.specs.declared.Piece.{Piece}
use Rattle.options.specs.declared.Piece.TheVariants as piece

-- what a text of options asks for, or that it is no such text
abbrev pub Options : Type 0
Options = Option Asked

-- "up to 255 bytes"
abbrev pub most_bytes : ℕ
most_bytes = 255

abbrev pub comma : ℕ
comma = code ","

-- a byte in front of the first piece; a text always has one
abbrev pub in_front : ℕ → List (List ℕ) → List (List ℕ)
in_front x [] = (x ∷ []) ∷ []
in_front x (piece ∷ pieces) = (x ∷ piece) ∷ pieces

-- "pieces split by commas"
unfoldable pub split : List ℕ → List (List ℕ)
split [] = [] ∷ []
split (x ∷ xs) = cond (eqb x comma) ([] ∷ split xs) (in_front x (split xs))

-- "empty pieces skipped"
unfoldable pub skip_empty : List (List ℕ) → List (List ℕ)
skip_empty [] = []
skip_empty ([] ∷ pieces) = skip_empty pieces
skip_empty ((x ∷ xs) ∷ pieces) = (x ∷ xs) ∷ skip_empty pieces

-- one option: what it asks for where it is the piece, else what the others find
abbrev pub asks : List ℕ → List ℕ → Piece → Option Piece → Option Piece
asks text option asked rest = cond (same text option) (Some asked) rest

-- "each `errors=` with `remount-ro`, `zone-ro`, `zone-offline` or `repair`", and 02's option: what a piece asks for
unfoldable pub piece_of : List ℕ → Option Piece
piece_of text =
    asks text (ascii "errors=remount-ro") (piece.Policy RemountRo)
    (asks text (ascii "errors=zone-ro") (piece.Policy ZoneRo)
    (asks text (ascii "errors=zone-offline") (piece.Policy ZoneOffline)
    (asks text (ascii "errors=repair") (piece.Policy Repair)
    (asks text (ascii "explicit-open") piece.ExplicitOpen None))))

-- what is asked for, with one piece more: of policies "the last wins"
abbrev pub with_piece : Asked → Option Piece → Options
with_piece a (Some (piece.Policy policy)) = Some (record { policy = policy; explicit = a.explicit })
with_piece a (Some piece.ExplicitOpen) = Some (record { policy = a.policy; explicit = true })
with_piece a None = None

-- where no piece is bad
abbrev pub after_piece : Options → List ℕ → Options
after_piece None text = None
after_piece (Some a) text = with_piece a (piece_of text)

-- the pieces in their order, after what stood before them
abbrev pub after_pieces : Options → List (List ℕ) → Options
after_pieces before pieces = foldl after_piece before (skip_empty pieces)

-- "default remount-ro"
abbrev pub by_default : Asked
by_default = record { policy = RemountRo; explicit = false }

unfoldable pub options_of : List ℕ → Options
options_of text = cond (leb (length text) most_bytes) (after_pieces (Some by_default) (split text)) None

-- the answer in numbers: 27, "options", or 0 with the policy's code, and 1 where `explicit-open` is asked for
abbrev pub options_number : Options → ℕ
options_number (Some a) = 0
options_number None = refusal_number BadOptions

abbrev pub options_values : Options → List ℕ
options_values (Some a) = policy_code a.policy ∷ flag_code a.explicit ∷ []
options_values None = []
