-- What functions tell those that call them. No outcome is defined here.
use Rattle.std.specs.Prelude.{ℕ, List, ◌≡◌, take}
use Rattle.text.specs.Facts.{Put}
use Rattle.tape_turns.specs.declared.Turned.{Turned}
use Rattle.tape_turns.specs.Turns.{Turn}
use Rattle.tape_turns.specs.Facts.{rest_of}

-- a function played records: it put their lines at a place, and handed back the rest
pub record Plays (t : Turn) (before after : List ℕ) (to : ℕ) (r : Turned) (cnv seq : List ℕ) : Type 0 where
  pub lines : Put before after to r.to t.line
  pub rest : rest_of r cnv seq ≡ t.rest

-- a function copied lines from the start of some bytes, and handed the rest on
pub record Copies (t : Turned) (lines before after : List ℕ) (to : ℕ) (r : Turned) : Type 0 where
  pub copy : Put before after to r.to (take t.to lines)
  pub more : r.more ≡ t.more
  pub next : r.next ≡ t.next
  pub mount : r.mount ≡ t.mount
