-- As much of a text as there is room for, put into bytes at a place.
-- Assumes nothing.
use mathlib.Core.Path.{◌≡◌, refl, ap, ◌∙◌, sym}
use mathlib.Core.List.{List, [], ◌∷◌, ◌++◌, append_assoc}
use Prim.Native.Nat.{ℕ, zero, suc, ◌+◌, ◌<◌, ◌≤◌}
use native.Mathlib.Omega.{arith}
use lib.ListN.{length, set, take, drop, length-set}
use lib.Seq.{sets, sets-eq, set_out, drop-drop, length-take-le}
use Rattle.std.proofs.lemmas.List.{take-take}
use borrow.Rule.Slice.PartMut.{put_mid}

-- none of it where the place is past the end
pub sets_out : (text l : List ℕ) (at : ℕ) → length l ≤ at → sets l at text ≡ l
sets_out [] l at h = refl
sets_out (x ∷ text) l at h = rw (set_out l at x h) (sets_out text l (suc at) (omega arith))

-- and what would be past the end stays out
fitting : (text l : List ℕ) (at k : ℕ) → k ≤ length text → (k < length text → length l ≤ at + k) → sets l at (take k text) ≡ sets l at text
fitting [] l at zero h end = refl
fitting [] l at (suc k) h end = refl
fitting (x ∷ text) l at zero h end = sym (sets_out (x ∷ text) l at (omega (arith, end (omega arith))))
fitting (x ∷ text) l at (suc k) h end =
    fitting text (set l at x) (suc at) k (omega arith) (λ p. omega (arith, end (omega arith), length-set l at x))

-- the first n of a line written over a part as long as what fits of them
pub put_fitting : (line kept l : List ℕ) (at n k part : ℕ) → kept ≡ take k line → part ≡ k → n ≤ length line → (k ≤ n) × (at + k ≤ length l)
    → (k < n → length l ≤ at + k) → put_mid at part l kept ≡ sets l at (take n line)
put_fitting line kept l at n k part e size within room end =
    let whole = length-take-le n line within in
    let long : length kept ≡ k = ap length e ∙ length-take-le k line (omega arith) in
    ap (λ (t : List ℕ). take at l ++ (kept ++ t)) (drop-drop part at l ∙ ap (λ (m : ℕ). drop (at + m) l) (size ∙ sym long))
    ∙ sym (sets-eq kept l at (omega arith) ∙ append_assoc (take at l) kept (drop (at + length kept) l))
    ∙ ap (sets l at) (e ∙ sym (take-take k n line (omega arith)))
    ∙ fitting (take n line) l at k (omega arith) (λ p. end (omega arith))
