-- What functions tell those that call them. No outcome is defined here.
use Rattle.std.specs.Prelude.{ℕ, ◌≤◌, List, [], ◌≡◌, Bool, true, length, take}
use Rattle.std.proofs.lemmas.List.Edits.{sets}
use Rattle.text.specs.Facts.{Put}
use Rattle.tape_turns.specs.declared.Turned.{Turned}
use Rattle.tape_turns.specs.Facts.{rest_of}
use Rattle.tape_pieces.specs.declared.Kept.{Kept}
use Rattle.tape_pieces.specs.Pieces.{Holding, Part, piece_of, next_part}

-- what a record left, with its next one at the front
abbrev pub front_turned : Turned → Turned
front_turned t = record { to = t.to; more = t.more; next = 0; mount = t.mount }

-- a function played a part of a tape: it put its lines at a place, moved what is held to the front of the buffer, and handed back the rest
pub record Keeps (p : Part) (buffer left before after : List ℕ) (to : ℕ) (r : Kept) (cnv seq : List ℕ) : Type 0 where
  pub lines : Put before after to r.turned.to p.text
  pub front : left ≡ sets buffer 0 p.held.bytes
  pub held : r.left ≡ length p.held.bytes
  pub rest : rest_of r.turned cnv seq ≡ p.held.rest
  pub short : r.left ≤ length buffer
  pub inside : to ≤ length before → r.turned.to ≤ length before

-- a function read a piece behind what was held, an empty one that is again the last if the input had ended, and played on: the front of the buffer, the lines and the
-- rest are those of that piece
pub record Continues (room : ℕ) (h : Holding) (last : Bool) (buffer before after : List ℕ) (r : Kept) (cnv seq : List ℕ) : Type 0 where
  pub bytes : List ℕ
  pub none : h.ended ≡ true → bytes ≡ []
  pub still : h.ended ≡ true → last ≡ true
  pub lines : Put before after 0 r.turned.to (next_part room h (piece_of bytes last)).text
  pub front : take r.left buffer ≡ (next_part room h (piece_of bytes last)).held.bytes
  pub rest : rest_of r.turned cnv seq ≡ (next_part room h (piece_of bytes last)).held.rest

-- what the player holds: the first bytes of its buffer, and what the last record left
abbrev pub holding_of : List ℕ → Bool → Kept → List ℕ → List ℕ → Holding
holding_of buffer ended k cnv seq = record { bytes = take k.left buffer; ended = ended; rest = rest_of k.turned cnv seq }
