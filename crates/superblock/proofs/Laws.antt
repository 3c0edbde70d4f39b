-- Laws of the bytes of a super block.
-- Assumes nothing.
use Prim.Native.Nat.{ℕ}
use mathlib.Core.Path.{◌≡◌, refl, ap}
use mathlib.Core.Bool.{Bool, not, ◌||◌}
use mathlib.Core.List.{List, [], ◌∷◌}
use lib.Dec.{eqb}
use Rattle.std.specs.List.{list_any}
use Rattle.superblock.specs.SuperBlock.{nonzero}

-- one that isn't zero is there: what the search of them answers
pub nonzero_any : (b : List ℕ) → list_any (λ x. not (eqb x 0)) b ≡ nonzero b
unfolding nonzero
nonzero_any [] = refl
nonzero_any (x ∷ xs) = ap (λ (r : Bool). not (eqb x 0) || r) (nonzero_any xs)
