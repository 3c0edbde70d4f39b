-- Laws of parts of a text, one after the other.
-- Assumes nothing.
use Prim.Native.Nat.{ℕ}
use mathlib.Core.Path.{◌≡◌, refl, ◌∙◌}
use mathlib.Core.List.{List, [], ◌∷◌, ◌++◌, flatten}
use Rattle.std.specs.List.{fold}
use Rattle.options.specs.declared.reading.Reading.{Reading}
use Rattle.options.specs.Reading.{byte_taken, part_taken, parts_taken}

-- what a fold over the bytes comes to
pub taken_all : (r : Reading) (b : List ℕ) → fold byte_taken r b ≡ part_taken r b
unfolding part_taken
taken_all r [] = refl
taken_all r (x ∷ xs) = taken_all (byte_taken r x) xs

-- two parts are the one that they make together
pub part_join : (r : Reading) (a b : List ℕ) → part_taken (part_taken r a) b ≡ part_taken r (a ++ b)
unfolding part_taken
part_join r [] b = refl
part_join r (x ∷ xs) b = part_join (byte_taken r x) xs b

-- and so is any list of them
pub parts_join : (r : Reading) (parts : List (List ℕ)) → parts_taken r parts ≡ part_taken r (flatten parts)
unfolding part_taken parts_taken flatten
parts_join r [] = refl
parts_join r (part ∷ parts) = parts_join (part_taken r part) parts ∙ part_join r part (flatten parts)
