-- Two texts that are compared: what the answer tells.
-- Assumes nothing.
use Prim.Native.Nat.{ℕ}
use native.Mathlib.Decide.{ℕ_discrete}
use mathlib.Core.Path.{◌≡◌, refl, ap}
use mathlib.Core.Logic.{◌≢◌}
use mathlib.Core.Bool.{Bool, true, false, ◌&&◌}
use mathlib.Core.List.{List, [], ◌∷◌}
use lib.Pointwise.{pointwise}
use Rattle.std.specs.Prelude.{nat_eq, eqb}
use borrow.Author.Tests.{eq-eqb, ne_eqb}
use Rattle.text.specs.Text.{same}

pub same_refl : (b : List ℕ) → same b b ≡ true
unfolding same
same_refl [] = refl
same_refl (x ∷ xs) = rw (eq-eqb x x refl) (same_refl xs)

pub not_same : (b c : List ℕ) → b ≢ c → same b c ≡ false
unfolding same
not_same [] [] d = absurd (d refl)
not_same [] (y ∷ ys) d = refl
not_same (x ∷ xs) [] d = refl
not_same (x ∷ xs) (y ∷ ys) d = elim (ℕ_discrete x y) [
  | yes e ↦ rw (eq-eqb x y e) (not_same xs ys (λ f. d (cc)))
  | no n ↦ rw (ne_eqb x y n)
]

-- what `==` answers at two slices
pub same_is : (b c : List ℕ) → same b c ≡ pointwise nat_eq b c
unfolding same
same_is [] [] = refl
same_is [] (y ∷ ys) = refl
same_is (x ∷ xs) [] = refl
same_is (x ∷ xs) (y ∷ ys) = ap (λ (r : Bool). eqb x y && r) (same_is xs ys)
