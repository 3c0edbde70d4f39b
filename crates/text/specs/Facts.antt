-- What the functions that put text into lent bytes ask and tell. No text is defined here.
use Rattle.std.specs.Prelude.{ℕ, ◌+◌, ◌≤◌, ◌<◌, ◌≡◌, List, length}
use Rattle.std.proofs.lemmas.List.Edits.{sets}

-- the field of a number of 64 bits has at most a space and 20 digits
abbrev pub field_bytes : ℕ
field_bytes = 21

-- a text was put into bytes at a place: what they hold then, and the place after it
pub record Put (before after : List ℕ) (at next : ℕ) (text : List ℕ) : Type 0 where
  pub bytes : after ≡ sets before at text
  pub place : next ≡ at + length text

-- as much of a text was put into bytes at a place as there is room for: the place after it lies past the end exactly if there was too little
pub record Fills (before after : List ℕ) (at next : ℕ) (text : List ℕ) : Type 0 where
  pub bytes : after ≡ sets before at text
  pub place : next ≤ length before → next ≡ at + length text
  pub short : length before < next → length before < at + length text
