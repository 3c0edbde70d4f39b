-- Tests: their parts, tests that answer alike, and a limit on a sum, tested without the sum.
-- Assumes nothing.
use Prim.Native.Nat.{ℕ, suc, ◌+◌, ◌-◌, ◌≤◌, ◌<◌}
use native.Mathlib.Omega.{arith}
use native.Mathlib.Nat.{lt_of_not-le}
use native.Mathlib.Decide.{dec_le}
use mathlib.Core.Path.{◌≡◌, refl, ◌∙◌, sym}
use mathlib.Core.Bool.{Bool, true, false, false≢true, not, ◌&&◌, ◌||◌}
use lib.Dec.{leb, ltb}
use borrow.Author.Tests.{le-leb, lt-leb, lt-ltb}

-- PARTS

pub both : {s t : Bool} → s ≡ true → t ≡ true → s && t ≡ true
both d e = cc

pub and_left : (a b : Bool) → a && b ≡ true → a ≡ true
and_left true b h = refl
and_left false b h = h

pub and_right : (a b : Bool) → a && b ≡ true → b ≡ true
and_right true b h = h
and_right false b h = absurd (false≢true h)

pub or_left : (a b : Bool) → a || b ≡ false → a ≡ false
or_left true b h = absurd (false≢true (sym h))
or_left false b h = refl

pub or_right : (a b : Bool) → a || b ≡ false → b ≡ false
or_right true b h = absurd (false≢true (sym h))
or_right false b h = h

-- the two answers of a test
pub cases : {X : Type 0} (b : Bool) → (b ≡ true → X) → (b ≡ false → X) → X
cases true f g = f refl
cases false f g = g refl

-- "a means b", from its sides and to them
pub means_in : (a b : Bool) → (a ≡ true → b ≡ true) → not a || b ≡ true
means_in true b h = h refl
means_in false b h = refl

pub means_out : (a b : Bool) → not a || b ≡ true → a ≡ true → b ≡ true
means_out true b h e = h
means_out false b h e = absurd (false≢true e)

-- ALIKE

pub leb-same : (a b c d : ℕ) → (a ≤ b → c ≤ d) → (c ≤ d → a ≤ b) → leb a b ≡ leb c d
leb-same a b c d f g =
    elim (dec_le a b) [
      | yes h ↦ le-leb a b h ∙ sym (le-leb c d (f h))
      | no h ↦ lt-leb a b (lt_of_not-le h) ∙ sym (lt-leb c d (lt_of_not-le (λ k. h (g k))))
    ]

-- A LIMIT ON A SUM

-- within it
pub leb_room : (s n l : ℕ) → s ≤ l → leb n (l - s) ≡ leb (s + n) l
leb_room s n l h = leb-same n (l - s) (s + n) l (λ p. omega arith) (λ p. omega arith)

pub leb_no_room : (s n l : ℕ) → l < s → leb (s + n) l ≡ false
leb_no_room s n l h = lt-leb (s + n) l (omega arith)

-- above it
pub ltb_room : (s n l : ℕ) → s ≤ l → ltb (l - s) n ≡ ltb l (s + n)
ltb_room s n l h = leb-same (suc (l - s)) n (suc l) (s + n) (λ p. omega arith) (λ p. omega arith)

pub ltb_no_room : (s n l : ℕ) → l < s → ltb l (s + n) ≡ true
ltb_no_room s n l h = lt-ltb l (s + n) (omega arith)
