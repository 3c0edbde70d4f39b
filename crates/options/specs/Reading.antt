-- 02, K3: "read it in a single pass, a step to each byte that holds only a few numbers: handed over in two parts, cut anywhere, it gets the same answer
-- as whole". What one byte does, and the claim that this comes to what `Options` says.
use Rattle.std.specs.Prelude.{ℕ, ◌+◌, ◌-◌, ◌*◌, ◌/◌, ◌%◌, ◌^◌, Bool, cond, ◌≡◌, length, get_or, take, drop, leb, eqb, Option, Some, None}
use Prim.Native.String.{String}
use mathlib.Core.List.{List, [], ◌∷◌, ◌++◌, foldl, flatten}
use Rattle.std.specs.Int.Bits.{bit_and}
use Rattle.text.specs.Text.{ascii, same}
use Rattle.types.specs.declared.ErrorPolicy.TheVariants.{RemountRo, ZoneRo, ZoneOffline, Repair}
use Rattle.types.specs.Codes.{flag_code}
use Rattle.options.specs.Options.{Options}
use Rattle.options.specs.declared.Piece.{Piece}
use Rattle.options.specs.declared.Piece.TheVariants as piece
use Rattle.options.specs.declared.reading.Reading.{Reading}
use Rattle.options.specs.Options.{most_bytes, comma, with_piece, by_default, options_of}

-- ---- the words that a piece may be, in one list

-- a word that a piece may be, and what it asks for
pub record Word : Type 0 where
  pub text : List ℕ
  pub asks : Piece

abbrev pub word : String → Piece → Word
word text asks = record { text = ascii text; asks = asks }

-- "each `errors=` with `remount-ro`, `zone-ro`, `zone-offline` or `repair`", and 02's option
unfoldable pub words : List Word
words =
    word "errors=remount-ro" (piece.Policy RemountRo)
    ∷ word "errors=zone-ro" (piece.Policy ZoneRo)
    ∷ word "errors=zone-offline" (piece.Policy ZoneOffline)
    ∷ word "errors=repair" (piece.Policy Repair)
    ∷ word "explicit-open" piece.ExplicitOpen
    ∷ []

-- what the first of these words asks for that the text is, or that it is none of them
unfoldable pub piece_among : List Word → List ℕ → Option Piece
piece_among [] text = None
piece_among (w ∷ ws) text = cond (same text w.text) (Some w.asks) (piece_among ws text)

-- where no piece is bad: a text that had a bad piece stays bad, whatever follows
abbrev pub and_piece : Options → Option Piece → Options
and_piece None p = None
and_piece (Some a) p = with_piece a p

-- ---- "a few numbers", which are the fields of `Reading`

-- a count of bytes, which stops once there are more than a text may have
abbrev pub counted : ℕ → ℕ
counted n = cond (leb n most_bytes) (n + 1) n

-- which words the piece so far could still become: a set of words is a number with a bit for each, the first word's the lowest.
-- Whether the first word is in a set, and the set of the words after it:
abbrev pub has_first : ℕ → Bool
has_first set = eqb (set % 2) 1

abbrev pub others : ℕ → ℕ
others set = set / 2

-- before its first byte a piece could become any of them
abbrev pub all_words : ℕ
all_words = 2 ^ length words - 1

-- before the first byte of the text
abbrev pub started : Reading
started = record { bytes = 0; candidates = all_words; place = 0; so_far = Some by_default }

-- ---- one byte: the same rule for each word

-- the byte that a word has at a place: where it has ended, the comma that may follow it
abbrev pub letter_at : ℕ → Word → ℕ
letter_at at w = get_or w.text at comma

-- the words that have this byte at this place
unfoldable pub having : ℕ → ℕ → List Word → ℕ
having b at [] = 0
having b at (w ∷ ws) = flag_code (eqb b (letter_at at w)) + 2 * having b at ws

-- what the piece so far could become with one byte more: a word that it could become until now, and that has this byte next
abbrev pub going_on : Reading → ℕ → ℕ
going_on r b = bit_and r.candidates (having b r.place words)

-- what the first word of a set asks for
unfoldable pub piece_in : List Word → ℕ → Option Piece
piece_in [] set = None
piece_in (w ∷ ws) set = cond (has_first set) (Some w.asks) (piece_in ws (others set))

-- what is asked for with a piece more, which has so many bytes and is each word of this set. "empty pieces skipped"
unfoldable pub piece_ended : Options → ℕ → ℕ → Options
piece_ended before bytes set = cond (eqb bytes 0) before (and_piece before (piece_in words set))

-- "pieces split by commas": a comma ends the piece so far, and the words that have it here are those that end here. The next piece begins.
abbrev pub next_piece : Reading → Reading
next_piece r =
    record {
      bytes = counted r.bytes;
      candidates = all_words;
      place = 0;
      so_far = piece_ended r.so_far r.place (going_on r comma);
    }

-- any other byte goes on with it
abbrev pub one_more : Reading → ℕ → Reading
one_more r b =
    record {
      bytes = counted r.bytes;
      candidates = going_on r b;
      place = counted r.place;
      so_far = r.so_far;
    }

-- one byte more
unfoldable pub byte_taken : Reading → ℕ → Reading
byte_taken r b = cond (eqb b comma) (next_piece r) (one_more r b)

-- ---- a part of the text: its bytes, one after the other
unfoldable pub part_taken : Reading → List ℕ → Reading
part_taken r part = foldl byte_taken r part

-- parts, one after the other
unfoldable pub parts_taken : Reading → List (List ℕ) → Reading
parts_taken r parts = foldl part_taken r parts

-- ---- the end of the text, which ends the last piece as a comma does: "up to 255 bytes"
unfoldable pub answered : Reading → Options
answered r = cond (leb r.bytes most_bytes) (next_piece r).so_far None

-- THE CLAIM, for every text of any bytes and any length (the law `reads_in_parts`).
pub record ReadInParts : Type 0 where
  -- two parts leave what the one leaves that they make together, whatever was held before them; and so does any list of parts
  pub two_parts : (r : Reading) (a b : List ℕ) → part_taken (part_taken r a) b ≡ part_taken r (a ++ b)
  pub any_parts : (r : Reading) (parts : List (List ℕ)) → parts_taken r parts ≡ part_taken r (flatten parts)
  -- the answer is that of the definition: of a text in one go
  pub whole : (text : List ℕ) → answered (part_taken started text) ≡ options_of text
  -- "handed over in two parts, cut anywhere, it gets the same answer as whole"
  pub cut : (text : List ℕ) (k : ℕ) → answered (part_taken (part_taken started (take k text)) (drop k text)) ≡ options_of text
  -- and in any list of parts
  pub in_parts : (parts : List (List ℕ)) → answered (parts_taken started parts) ≡ options_of (flatten parts)
