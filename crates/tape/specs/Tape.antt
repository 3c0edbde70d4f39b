-- What a tape prints, as one text.
use Rattle.std.specs.Prelude.{ℕ, zero, suc, ◌*◌, List, [], ◌++◌, Bool, cond, ◌&&◌, length, replicate, leb, ltb}
use Rattle.table.specs.Rows.{row_width}
use Rattle.tape_records.specs.Records.{tape_files}
use Rattle.tape_turns.specs.Turns.{Rest, turn_at, open_turn}
use Rattle.tape.specs.declared.Played.{Played}

-- no record said "stop", and the tape goes on: after `MO` it may end between records, and nothing is printed for that
abbrev pub is_further : Bool → ℕ → ℕ → Bool
is_further more next have = more && ltb next have

abbrev pub goes_further : List ℕ → Rest → Bool
goes_further b r = is_further r.more r.next (length b)

-- the text of the rest of a tape, of n records at most
unfoldable pub text_from : ℕ → List ℕ → Rest → List ℕ
text_from zero b r = []
text_from (suc n) b r =
    cond (goes_further b r) ((turn_at b r.next r.state).line ++ text_from n b (turn_at b r.next r.state).rest) []

-- the text of a tape that is played with two tables; no record is empty, so it has fewer records than bytes
unfoldable pub text_with : List ℕ → List ℕ → List ℕ → List ℕ
text_with b cnv seq = (open_turn b cnv seq).line ++ text_from (length b) b (open_turn b cnv seq).rest

-- a table with room for as many files of a kind as a tape's report gives
abbrev pub no_rows : List ℕ
no_rows = replicate (row_width * tape_files) 0

-- THE TAPE: what playing it prints
unfoldable pub tape_text : List ℕ → List ℕ
tape_text b = text_with b no_rows no_rows

-- ---- a tape in memory, and its text in lent bytes

-- of a text of n bytes: whether it fits, and how many of the lent bytes are its bytes, the smaller of both lengths
abbrev pub played_to : ℕ → ℕ → Played
played_to n room = record { whole = leb n room; length = cond (leb n room) n room }

abbrev pub played_into : ℕ → List ℕ → Played
played_into room text = played_to (length text) room
