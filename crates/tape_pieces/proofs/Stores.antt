-- Bytes that are moved to the front.
-- Assumes nothing.
use mathlib.Core.Path.{◌≡◌, sym, ap, ◌∙◌}
use mathlib.Core.List.{List, ◌++◌}
use Prim.Native.Nat.{ℕ, ◌+◌, ◌≤◌}
use native.Mathlib.Omega.{arith}
use lib.ListN.{length, take, drop, length-drop}
use lib.Seq.{sets, sets-eq, paste, length-take-le, take-add, drop_at}

-- n bytes of a place, copied over those in front
pub moved : (l : List ℕ) (from n : ℕ) → from + n ≤ length l → paste l 0 (drop from l) n ≡ sets l 0 (take n (drop from l))
moved l from n h =
    let size : length (take n (drop from l)) ≡ n = length-take-le n (drop from l) (omega (arith, length-drop from l)) in
    let end : 0 + n ≡ 0 + length (take n (drop from l)) = omega arith in
    ap (λ (k : ℕ). take n (drop from l) ++ drop k l) end ∙ sym (sets-eq (take n (drop from l)) l 0 (omega arith))

-- the bytes from a place to another, in either order
pub between : (l : List ℕ) (from n : ℕ) → from + n ≤ length l → take n (drop from l) ≡ drop from (take (from + n) l)
between l from n h = sym (ap (drop from) (take-add from n l) ∙ drop_at (take from l) (take n (drop from l)) from (length-take-le from l (omega arith)))
