-- A block of records: those that can be played of the bytes that are there.
use Rattle.std.specs.Prelude.{ℕ, zero, suc, ◌+◌, List, [], ◌++◌, Bool, cond, ◌&&◌, ◌||◌, length, leb}
use Rattle.tape_records.specs.Records.{failed_bytes}
use Rattle.tape_lines.specs.Facts.{line_room}
use Rattle.tape_turns.specs.Turns.{Rest, Turn, turn_at}
use Rattle.tape.specs.Tape.{is_further}

-- no record after the first four is longer
abbrev pub longest_record : ℕ
longest_record = failed_bytes

-- of so many bytes that are there, the record at a place can be told: it is whole, or they are the last
abbrev pub is_told : Bool → ℕ → ℕ → Bool
is_told ended have at = ended || leb (at + longest_record) have

-- there is room for a line after those that take so many of the lent bytes
abbrev pub has_room : ℕ → ℕ → Bool
has_room to room = leb (to + line_room) room

-- the next record can be played: there is one, it can be told, and there is room for its line
abbrev pub is_ready : Bool → ℕ → Bool → ℕ → ℕ → ℕ → Bool
is_ready more next ended have to room = is_further more next have && (is_told ended have next && has_room to room)

-- the rest of a tape whose bytes before the next record are gone
abbrev pub at_front : Rest → Rest
at_front r = record { more = r.more; next = 0; state = r.state }

-- nothing is played
abbrev pub no_turn : Rest → Turn
no_turn r = record { line = []; rest = r }

-- a line, and what is played after it
abbrev pub line_then : List ℕ → Turn → Turn
line_then line t = record { line = line ++ t.line; rest = t.rest }

-- the records that are ready, n at most, one after the other: their lines, and the rest
unfoldable pub block_from : ℕ → Bool → List ℕ → ℕ → ℕ → Rest → Turn
block_from zero ended b to room r = no_turn r
block_from (suc n) ended b to room r =
    cond (is_ready r.more r.next ended (length b) to room)
    (line_then (turn_at b r.next r.state).line
    (block_from n ended b (to + length (turn_at b r.next r.state).line) room (turn_at b r.next r.state).rest))
    (no_turn r)

-- all of them: no record is empty
abbrev pub block_of : Bool → List ℕ → ℕ → ℕ → Rest → Turn
block_of ended b to room r = block_from (length b) ended b to room r
