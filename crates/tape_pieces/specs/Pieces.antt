-- A tape that is handed over in pieces, as reads do it: what is kept between two of them, what the player writes, and the claim that this is
-- the tape's text.
use Rattle.std.specs.Prelude.{ℕ, ◌+◌, ◌≤◌, ◌<◌, ◌≡◌, List, [], ◌∷◌, ◌++◌, Bool, true, false, not, ◌&&◌, ◌||◌, length, get_or, drop, eqb}
use Rattle.tape_lines.specs.Facts.{line_room}
use Rattle.tape_records.specs.Records.{limits_bytes}
use Rattle.tape_records.specs.Facts.{longest_options}
use Rattle.tape_turns.specs.Turns.{Rest, Turn, open_turn}
use Rattle.tape.specs.Tape.{no_rows, tape_text}
use Rattle.tape.specs.Blocks.{longest_record, at_front, line_then, block_of}

-- ---- what is kept

-- what the player holds between two reads: the bytes that aren't played yet, whether they are the last, and what the last record left
pub record Holding : Type 0 where
  pub bytes : List ℕ
  pub ended : Bool
  pub rest : Rest

-- the lines that a part of a tape prints, and what is held after it
pub record Part : Type 0 where
  pub text : List ℕ
  pub held : Holding

-- of the bytes that are there, those from the next record on
abbrev pub part_by : Bool → List ℕ → Turn → Part
part_by ended b t = record {
  text = t.line;
  held = record {
    bytes = drop t.rest.next b;
    ended = ended;
    rest = at_front t.rest;
  };
}

-- the records that are ready are played, and what is left of the bytes is kept
unfoldable pub part_of : Bool → List ℕ → ℕ → ℕ → Rest → Part
part_of ended b to room r = part_by ended b (block_of ended b to room r)

-- ---- the pieces

-- what a read hands over: bytes, and whether it says that the input has ended
pub record Piece : Type 0 where
  pub bytes : List ℕ
  pub last : Bool

abbrev pub piece_of : List ℕ → Bool → Piece
piece_of b last = record { bytes = b; last = last }

-- ---- what the player does with them

-- the first piece: the tape is opened, and the records that are ready are played
unfoldable pub first_part : ℕ → Piece → List ℕ → List ℕ → Part
first_part room x cnv seq =
    let t = open_turn x.bytes cnv seq in
    part_by x.last x.bytes (line_then t.line (block_of x.last x.bytes (length t.line) room t.rest))

-- a further one, behind what is held
abbrev pub next_part : ℕ → Holding → Piece → Part
next_part room h x = part_of x.last (h.bytes ++ x.bytes) 0 room h.rest

-- after a part, with the pieces that follow: all lines, and what is held at the end
unfoldable pub lines_from : ℕ → Part → List Piece → List ℕ
lines_from room p [] = p.text
lines_from room p (x ∷ xs) = p.text ++ lines_from room (next_part room p.held x) xs

unfoldable pub held_after : ℕ → Part → List Piece → Holding
held_after room p [] = p.held
held_after room p (x ∷ xs) = held_after room (next_part room p.held x) xs

-- ---- what is asked of the reads

-- the bytes of pieces, one after the other
unfoldable pub joined : List Piece → List ℕ
joined [] = []
joined (x ∷ xs) = x.bytes ++ joined xs

-- a piece is called the last only if no byte follows it
unfoldable pub InOrder : List Piece → List ℕ → Type 0
InOrder [] unread = Unit
InOrder (x ∷ xs) unread = (x.last ≡ true → joined xs ++ unread ≡ []) × InOrder xs unread

-- the first four records are no longer
abbrev pub longest_opening : ℕ
longest_opening = longest_options + limits_bytes

-- reads hand over an input in order: bytes, the first four records whole in the first piece if it isn't the last; some may be left unread
pub record Handed (first : Piece) (later : List Piece) (unread : List ℕ) : Type 0 where
  pub order : InOrder (first ∷ later) unread
  pub bytes : (i : ℕ) → get_or first.bytes i 0 < 256
  pub opening : first.last ≡ false → longest_opening ≤ length first.bytes

-- ---- what is claimed

-- the player stops: the tape did, or its last byte is played
abbrev pub is_over : Bool → Bool → ℕ → Bool
is_over more ended left = not more || (ended && eqb left 0)

abbrev pub is_through : Holding → Bool
is_through h = is_over h.rest.more h.ended (length h.bytes)

-- lines are a beginning of a text, and all of it once the player stops
pub record Writes (lines text : List ℕ) (h : Holding) : Type 0 where
  pub due : List ℕ
  pub beginning : lines ++ due ≡ text
  pub whole : is_through h ≡ true → lines ≡ text

-- THE PROGRAM: however an input is handed over, and with room for any lines at a time, what is written is the text of its tape
unfoldable pub WritesTape : Type 0
WritesTape =
    (room : ℕ) (first : Piece) (later : List Piece) (unread : List ℕ) → Handed first later unread
    → let p = first_part room first no_rows no_rows in
    Writes (lines_from room p later) (tape_text (joined (first ∷ later) ++ unread)) (held_after room p later)

-- and it gets on: with room for a line, a piece that ends the input or brings enough for a record leaves fewer bytes than there were
unfoldable pub GetsOn : Type 0
GetsOn =
    (room : ℕ) (h : Holding) (x : Piece) → line_room ≤ room → h.rest.more ≡ true → h.rest.next ≡ 0
    → 0 < length (h.bytes ++ x.bytes)
    → (x.last ≡ false → longest_record ≤ length (h.bytes ++ x.bytes))
    → ((next_part room h x).held.rest.more ≡ true → length (next_part room h x).held.bytes < length (h.bytes ++ x.bytes))
