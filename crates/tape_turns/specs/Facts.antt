-- What functions tell those that call them. No outcome is defined here.
use Rattle.std.specs.Prelude.{ℕ, ◌+◌, ◌≤◌, List, ◌≡◌}
use Rattle.engine.specs.Facts.{state_of}
use Rattle.tape_lines.specs.Facts.{line_room}
use Rattle.tape_turns.specs.declared.Turned.{Turned}
use Rattle.text.specs.Facts.{Put}
use Rattle.tape_turns.specs.Turns.{Rest, Turn}

-- what a function handed back, with both tables as it left them
abbrev pub rest_of : Turned → List ℕ → List ℕ → Rest
rest_of r cnv seq = record { more = r.more; next = r.next; state = state_of r.mount cnv seq }

-- a function took a turn: it put its line at a place, and handed back the rest
pub record Takes (t : Turn) (before after : List ℕ) (to : ℕ) (r : Turned) (cnv seq : List ℕ) : Type 0 where
  pub line : Put before after to r.to t.line
  pub rest : rest_of r cnv seq ≡ t.rest
  pub room : r.to ≤ to + line_room
