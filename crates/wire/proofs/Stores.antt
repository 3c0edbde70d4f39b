-- Bytes put over others: over a part of them, over all of them, and one after the other.
-- Assumes nothing.
use mathlib.Core.Path.{◌≡◌, refl, ap, sym, ◌∙◌}
use mathlib.Core.List.{List, [], ◌∷◌, ◌++◌, append-nil, append_assoc}
use Prim.Native.Nat.{ℕ, suc, ◌+◌, ◌-◌, ◌/◌, ◌%◌, ◌≤◌, ◌<◌}
use native.Mathlib.Nat.{add-zero, add-suc}
use native.Mathlib.Numerals.{add-one}
use native.Mathlib.Omega.{arith}
use lib.ListN.{length, set, take, drop, drop_of_length-le}
use lib.Seq.{sets, sets-eq, drop-drop}
use borrow.Rule.Slice.PartMut.{put_mid}
use Rattle.std.proofs.lemmas.List.Edits.{length-between}
use Rattle.std.proofs.lemmas.Grind.{take-set_at}
use Rattle.wire.specs.Le.{little}

-- ONE AFTER THE OTHER, at places counted from `at`, by a loop whose invariant is of what is left: what is there so far, with the rest put behind it, is all put

-- none is stored yet
pub begun : (b left all : List ℕ) (at : ℕ) → left ≡ all → sets b (at + 0) left ≡ sets b at all
begun b left all at e = ap (λ (k : ℕ). sets b k left) (add-zero at) ∙ ap (sets b at) e

-- byte i is the first of those that are left
pub stored : (b left rest : List ℕ) (at i v : ℕ) → left ≡ v ∷ rest → sets (set b (at + i) v) (at + (i + 1)) rest ≡ sets b (at + i) left
stored b left rest at i v e =
    ap (λ (k : ℕ). sets (set b (at + i) v) k rest) (ap (λ (k : ℕ). at + k) (add-one i) ∙ add-suc at i) ∙ sym (ap (sets b (at + i)) e)

-- A PART, AND ALL

-- a part of n bytes, as a range gives it
pub part_size : (b : List ℕ) (at n : ℕ) → at + n ≤ length b → length (take (at + n - at) (drop at b)) ≡ n
part_size b at n h = omega (arith, length-between b at (at + n))

-- bytes written over a part of as many
pub put_part : (b xs : List ℕ) (at k : ℕ) → length xs ≡ k → at + k ≤ length b → put_mid at k b xs ≡ sets b at xs
put_part b xs at k e h =
    ap (λ (l : List ℕ). take at b ++ (xs ++ l)) (drop-drop k at b ∙ ap (λ (n : ℕ). drop (at + n) b) (sym e))
    ∙ sym (sets-eq xs b at (omega arith) ∙ append_assoc (take at b) xs (drop (at + length xs) b))

-- a number's next byte, where i of n were put
pub byte_put : (n i x : ℕ) (bytes : List ℕ) → i < n → length bytes ≡ n
    → take (i + 1) (set bytes i (x % 256)) ++ little (n - (i + 1)) (x / 256) ≡ take i bytes ++ little (n - i) x
unfolding little
byte_put n i x bytes h e =
    let left : n - i ≡ suc (n - (i + 1)) = omega arith in
    let first : little (n - i) x ≡ x % 256 ∷ little (n - (i + 1)) (x / 256) = ap (λ (k : ℕ). little k x) left in
    ap (λ (l : List ℕ). l ++ little (n - (i + 1)) (x / 256)) (take-set_at bytes i (i + 1) (x % 256) refl (omega arith))
    ∙ append_assoc (take i bytes) (x % 256 ∷ []) (little (n - (i + 1)) (x / 256))
    ∙ sym (ap (λ (l : List ℕ). take i bytes ++ l) first)

-- bytes that are as many as there is room for are all that is there then
pub put_all : (b xs : List ℕ) → length xs ≡ length b → sets b 0 xs ≡ xs
put_all b xs e =
    sets-eq xs b 0 (omega arith)
    ∙ ap (λ (l : List ℕ). xs ++ l) (drop_of_length-le b {i = 0 + length xs} (omega arith))
    ∙ append-nil xs
