-- The laws of little-endian numbers, which every width cites, and of bytes laid out one part after the other.
-- Assumes nothing.
use mathlib.Core.Path.{◌≡◌, refl, ◌∙◌, ap, sym}
use mathlib.Core.List.{List, [], ◌∷◌, ◌++◌}
use Prim.Native.Nat.{ℕ, zero, suc, ◌+◌, ◌*◌, ◌/◌, ◌%◌, ◌^◌, ◌≤◌, ◌<◌}
use native.Mathlib.Numerals.{add-one}
use native.Mathlib.Nat.{zero-add, suc-add, add-zero, mul_comm, mul_assoc, pow-suc}
use native.Mathlib.Omega.{arith}
use lib.ListN.{length, get_or, take, drop, take-append-drop}
use lib.Seq.{drop-cons, drop-drop, drop_at, get_or-drop}
use Rattle.std.specs.Int.{sum_through, byte_worth, from_le_bytes, w16, w32, w64}
use Rattle.std.proofs.lemmas.List.{get_or-take}
use Rattle.wire.specs.Le.{le, little}

-- a number of one byte is that byte
pub le-one : (b : List ℕ) (at : ℕ) → le 1 b at ≡ get_or b at 0
unfolding le
le-one b at = omega arith

-- a number of m + n bytes is one of m bytes, and above it one of n
pub le-add : (m n : ℕ) (b : List ℕ) (at : ℕ) → le (m + n) b at ≡ le m b at + 256 ^ m * le n b (at + m)
unfolding le
le-add zero n b at = omega (arith, ap (λ (k : ℕ). le k b at) (zero-add n), ap (le n b) (add-zero at))
le-add (suc m) n b at =
    let far : le n b (at + 1 + m) ≡ le n b (at + suc m) = ap (le n b) (omega arith) in
    let high : 256 * (256 ^ m * le n b (at + 1 + m)) ≡ 256 ^ suc m * le n b (at + suc m) = rw (far, pow-suc, mul_comm (256 ^ m) 256, mul_assoc) in
    omega (arith, ap (λ (k : ℕ). le k b at) (suc-add m n), le-add m n b (at + 1))

-- a number of n bytes is below 256 ^ n
pub le_below : (n : ℕ) (b : List ℕ) (at : ℕ) → ((k : ℕ) → get_or b k 0 < 256) → le n b at < 256 ^ n
unfolding le
le_below zero b at small = omega arith
le_below (suc n) b at small = omega (arith, small at, le_below n b (at + 1) small, pow-suc 256 n)

-- BYTES, all below 256: those of a number, and of two lists of them, one after the other

pub little_bytes : (n v k : ℕ) → get_or (little n v) k 0 < 256
unfolding little
little_bytes zero v k = omega arith
little_bytes (suc n) v zero = omega arith
little_bytes (suc n) v (suc k) = little_bytes n (v / 256) k

pub append_bytes : (l m : List ℕ) → ((k : ℕ) → get_or l k 0 < 256) → ((k : ℕ) → get_or m k 0 < 256) → (k : ℕ) → get_or (l ++ m) k 0 < 256
append_bytes [] m h g k = g k
append_bytes (x ∷ l) m h g zero = h 0
append_bytes (x ∷ l) m h g (suc k) = append_bytes l m (λ j. h (suc j)) g k

-- THERE AND BACK

le-cons : (n x : ℕ) (l : List ℕ) (k : ℕ) → le n (x ∷ l) (suc k) ≡ le n l k
unfolding le
le-cons zero x l k = refl
le-cons (suc n) x l k =
    let e : suc k + 1 ≡ suc (k + 1) = omega arith in
    ap (λ m. get_or l k 0 + 256 * m) (ap (le n (x ∷ l)) e ∙ le-cons n x l (k + 1))

-- a number's bytes, and then others: the number, if they hold it
pub le-little : (n v : ℕ) (l : List ℕ) → v < 256 ^ n → le n (little n v ++ l) 0 ≡ v
unfolding le little
le-little zero v l h = omega (arith, h)
le-little (suc n) v l h =
    let p : 256 ^ suc n ≡ 256 ^ n * 256 = pow-suc 256 n in
    let m : ℕ = 256 ^ n in
    let low : v / 256 < 256 ^ n = omega (arith, h, p) in
    let rest : le n (v % 256 ∷ little n (v / 256) ++ l) 1 ≡ v / 256 = le-cons n (v % 256) (little n (v / 256) ++ l) 0 ∙ le-little n (v / 256) l low in
    ap (λ k. v % 256 + 256 * k) rest ∙ omega arith

pub length-little : (n v : ℕ) → length (little n v) ≡ n
unfolding little
length-little zero v = refl
length-little (suc n) v = ap suc (length-little n (v / 256))

-- n bytes from `at` on, back from their number
pub little-le : (n : ℕ) (b : List ℕ) (at : ℕ) → ((k : ℕ) → get_or b k 0 < 256) → at + n ≤ length b → little n (le n b at) ≡ take n (drop at b)
unfolding little le
little-le zero b at small h = refl
little-le (suc n) b at small h =
    let x = get_or b at 0 in
    let y = le n b (at + 1) in
    let low : (x + 256 * y) % 256 ≡ x = omega (arith, small at) in
    let high : (x + 256 * y) / 256 ≡ y = omega (arith, small at) in
    let inside : at < length b = omega arith in
    ap (λ (k : ℕ). k ∷ little n ((x + 256 * y) / 256)) low
    ∙ ap (λ (q : ℕ). x ∷ little n q) high
    ∙ ap (λ (l : List ℕ). x ∷ l) (little-le n b (at + 1) small (omega arith))
    ∙ ap (λ (k : ℕ). x ∷ take n (drop k b)) (add-one at)
    ∙ sym (ap (take (suc n)) (drop-cons b at 0 inside))

-- PARTS, one after the other: what stands from a place on

pub le-drop : (n at : ℕ) (b : List ℕ) (k : ℕ) → le n (drop at b) k ≡ le n b (at + k)
unfolding le
le-drop zero at b k = refl
le-drop (suc n) at b k =
    let e : at + (k + 1) ≡ at + k + 1 = omega arith in
    let here = get_or-drop at b k 0 in
    let there : le n (drop at b) (k + 1) ≡ le n b (at + k + 1) = le-drop n at b (k + 1) ∙ ap (le n b) e in
    cc

-- behind a part of n bytes, the rest
pub next_part_lem : (b part rest : List ℕ) (at n : ℕ) → length part ≡ n → drop at b ≡ part ++ rest → drop (at + n) b ≡ rest
next_part_lem b part rest at n l e = sym (drop-drop n at b) ∙ ap (drop n) e ∙ drop_at part rest n l

-- a number of n bytes there: the number
pub number_at : (b rest : List ℕ) (at n v : ℕ) → v < 256 ^ n → drop at b ≡ little n v ++ rest → le n b at ≡ v
number_at b rest at n v h e =
    sym (le-drop n at b 0 ∙ ap (le n b) (add-zero at)) ∙ ap (λ (l : List ℕ). le n l 0) e ∙ le-little n v rest h

-- and back: a part of n bytes that stand there, and the rest behind it
pub joined : (b part rest : List ℕ) (at n : ℕ) → part ≡ take n (drop at b) → rest ≡ drop (at + n) b → part ++ rest ≡ drop at b
joined b part rest at n p r =
    ap (λ (l : List ℕ). l ++ rest) p
    ∙ ap (λ (l : List ℕ). take n (drop at b) ++ l) (r ∙ sym (drop-drop n at b))
    ∙ take-append-drop n (drop at b)

-- WHAT `from_le_bytes` READS: the sum of the bytes, each by its weight

sum_le : (n : ℕ) (b : List ℕ) → sum_through (λ i. byte_worth i (get_or b i 0)) n ≡ le (suc n) b 0
unfolding le
sum_le zero b = omega arith
sum_le (suc n) b =
    let top : 256 ^ suc n * le 1 b (0 + suc n) ≡ get_or b (suc n) 0 * 256 ^ suc n =
    ap (λ (k : ℕ). 256 ^ suc n * k) (ap (le 1 b) (zero-add (suc n)) ∙ le-one b (suc n)) ∙ mul_comm (256 ^ suc n) (get_or b (suc n) 0) in
    omega (arith, sum_le n b, le-add (suc n) 1 b 0, top, ap (λ (k : ℕ). le k b 0) (add-one (suc n)))

le_take : (n m : ℕ) (b : List ℕ) (at : ℕ) → at + n ≤ m → le n (take m b) at ≡ le n b at
unfolding le
le_take zero m b at h = refl
le_take (suc n) m b at h = rw (get_or-take m b at 0 (omega arith), le_take n m b (at + 1) (omega arith)) refl

-- of n bytes from a place on: the number there
pub le_part : (n : ℕ) (b : List ℕ) (at : ℕ) → le n (take n (drop at b)) 0 ≡ le n b at
le_part n b at = le_take n n (drop at b) 0 (omega arith) ∙ le-drop n at b 0 ∙ ap (le n b) (add-zero at)

pub sum_there : (n : ℕ) (b : List ℕ) (at : ℕ) → sum_through (λ i. byte_worth i (get_or (take (suc n) (drop at b)) i 0)) n ≡ le (suc n) b at
sum_there n b at = sum_le n (take (suc n) (drop at b)) ∙ le_part (suc n) b at

-- EACH WIDTH, as code may read it: by its bytes, and by its low half and its high half

pub two_bytes : (b : List ℕ) (at : ℕ) → le 2 b at ≡ from_le_bytes w16 (take 2 (drop at b))
two_bytes b at = sym (sum_there 1 b at)

pub two_halves : (b : List ℕ) (at : ℕ) → le 2 b at ≡ get_or b at 0 + 256 * get_or b (at + 1) 0
two_halves b at = omega (arith, le-add 1 1 b at, le-one b at, le-one b (at + 1))

pub four_bytes : (b : List ℕ) (at : ℕ) → le 4 b at ≡ from_le_bytes w32 (take 4 (drop at b))
four_bytes b at = sym (sum_there 3 b at)

pub four_halves : (b : List ℕ) (at : ℕ) → le 4 b at ≡ le 2 b at + 65536 * le 2 b (at + 2)
four_halves b at = omega (arith, le-add 2 2 b at)

pub eight_bytes : (b : List ℕ) (at : ℕ) → le 8 b at ≡ from_le_bytes w64 (take 8 (drop at b))
eight_bytes b at = sym (sum_there 7 b at)

pub eight_halves : (b : List ℕ) (at : ℕ) → le 8 b at ≡ le 4 b at + 4294967296 * le 4 b (at + 4)
eight_halves b at = omega (arith, le-add 4 4 b at)
