-- Text put after text is one text put.
-- Assumes nothing.
use mathlib.Core.Path.{◌≡◌, refl, ap, ◌∙◌, sym}
use mathlib.Core.List.{List, [], ◌∷◌, ◌++◌}
use Prim.Native.Nat.{ℕ, suc, ◌+◌}
use native.Mathlib.Nat.{add-zero, add-suc, suc-add}
use native.Mathlib.Omega.{arith}
use lib.ListN.{length, length-append}
use lib.Seq.{sets}
use Rattle.text.specs.Facts.{Put}

pub sets-append : (xs ys l : List ℕ) (i : ℕ) → sets (sets l i xs) (i + length xs) ys ≡ sets l i (xs ++ ys)
sets-append [] ys l i = ap (λ (j : ℕ). sets l j ys) (add-zero i)
sets-append (x ∷ xs) ys l i =
    ap (λ (j : ℕ). sets (sets l i (x ∷ xs)) j ys) (add-suc i (length xs) ∙ sym (suc-add i (length xs)))
    ∙ sets-append xs ys _ (suc i)

-- a text, and another after it
pub then : {a b c x y : List ℕ} {i j k : ℕ} → Put a b i j x → Put b c j k y → Put a c i k (x ++ y)
then {a} {b} {c} {x} {y} {i} {j} {k} p q = record {
  bytes = q.bytes ∙ ap (λ (n : ℕ). sets b n y) p.place ∙ ap (λ (l : List ℕ). sets l (i + length x) y) p.bytes ∙ sets-append x y a i;
  place = omega (arith, p.place, q.place, length-append x y);
}

-- no text
pub nothing : (a : List ℕ) (i : ℕ) → Put a a i i []
nothing a i = record { bytes = refl; place = sym (add-zero i) }
