-- The checksum of a list, byte by byte or number by number, from an index on or so far, and of two lists in a row.
use mathlib.Core.Path.{◌≡◌, refl, ap, ◌∙◌, sym}
use mathlib.Core.List.{List, [], ◌∷◌, ◌++◌}
use Prim.Native.Nat.{ℕ, zero, suc, ◌+◌, ◌*◌, ◌≤◌, ◌<◌}
use native.Mathlib.Numerals.{add-one}
use native.Mathlib.Omega.{arith}
use lib.ListN.{length, take, drop, get_or, take-append-drop}
use lib.Seq.{drop-cons, take-add, drop-drop}
use Rattle.std.proofs.lemmas.List.{take_more}
use Rattle.std.specs.Simd.{first_chunks}
use Rattle.wire.specs.Le.{le, little}
use Rattle.wire.proofs.Laws.{le_part, little-le, joined}
use Rattle.crc32.specs.Crc.{crc_from, crc_byte}

-- the bytes of a, then those of b
pub crc_append : (c : ℕ) (a b : List ℕ) → crc_from c (a ++ b) ≡ crc_from (crc_from c a) b
unfolding crc_from
crc_append c [] b = refl
crc_append c (x ∷ xs) b = crc_append (crc_byte c x) xs b

-- SO FAR, FROM THE FIRST BYTE: no byte, and a byte more
pub crc_none : (c : ℕ) → crc_from c [] ≡ c
unfolding crc_from
crc_none c = refl

pub crc_next : (c : ℕ) (b : List ℕ) (i : ℕ) → i < length b → crc_from c (take (i + 1) b) ≡ crc_byte (crc_from c (take i b)) (get_or b i 0)
unfolding crc_from
crc_next c b i h = ap (crc_from c) (take_more b i 0 h) ∙ crc_append c (take i b) (get_or b i 0 ∷ [])

-- a number of n bytes more
pub crc_next_word : (n c : ℕ) (b : List ℕ) (at : ℕ) → ((k : ℕ) → get_or b k 0 < 256) → at + n ≤ length b
    → crc_from (crc_from c (take at b)) (little n (le n (take n (drop at b)) 0)) ≡ crc_from c (take (at + n) b)
crc_next_word n c b at small h =
    ap (λ (w : ℕ). crc_from (crc_from c (take at b)) (little n w)) (le_part n b at)
    ∙ ap (crc_from (crc_from c (take at b))) (little-le n b at small h)
    ∙ sym (ap (crc_from c) (take-add at n b) ∙ crc_append c (take at b) (take n (drop at b)))

-- the rest, after the bytes before a place
pub crc_rest : (c : ℕ) (b : List ℕ) (at : ℕ) → crc_from (crc_from c (take at b)) (drop at b) ≡ crc_from c b
crc_rest c b at = sym (crc_append c (take at b) (drop at b)) ∙ ap (crc_from c) (take-append-drop at b)

-- WHAT IS LEFT, FROM AN INDEX ON: a turn of a loop over bytes whose invariant is of what is left
pub crc_more : (c : ℕ) (b : List ℕ) (i : ℕ) → i < length b → crc_from (crc_byte c (get_or b i 0)) (drop (i + 1) b) ≡ crc_from c (drop i b)
unfolding crc_from
crc_more c b i h = rw (add-one, drop-cons b i 0)

-- a turn of such a loop over numbers of n bytes
pub crc_word : (n c : ℕ) (b : List ℕ) (i : ℕ) → ((k : ℕ) → get_or b k 0 < 256) → i + n ≤ length b
    → crc_from (crc_from c (little n (le n b i))) (drop (i + n) b) ≡ crc_from c (drop i b)
crc_word n c b i small h =
    let word = little n (le n b i) in
    sym (crc_append c word (drop (i + n) b)) ∙ ap (crc_from c) (joined b word (drop (i + n) b) i n (little-le n b i small h) refl)

-- eight bytes of those that were cut into eights
pub eight_at : (k i : ℕ) (b : List ℕ) → i < k → get_or (first_chunks 8 k b) i [] ≡ take 8 (drop (i * 8) b)
eight_at zero i b h = absurd (omega arith)
eight_at (suc k) zero b h = refl
eight_at (suc k) (suc i) b h =
    let on : 8 + i * 8 ≡ suc i * 8 = omega arith in
    eight_at k i (drop 8 b) (omega arith) ∙ ap (take 8) (drop-drop (i * 8) 8 b ∙ ap (λ (n : ℕ). drop n b) on)

-- the number of these, and what it makes of the register so far
pub eight_number : (k i : ℕ) (b : List ℕ) → i < k → le 8 (get_or (first_chunks 8 k b) i []) 0 ≡ le 8 b (i * 8)
eight_number k i b h = ap (λ (l : List ℕ). le 8 l 0) (eight_at k i b h) ∙ le_part 8 b (i * 8)

pub eight_more : (b : List ℕ) → ((k : ℕ) → get_or b k 0 < 256) → (c at : ℕ) → at + 8 ≤ length b
    → crc_from (crc_from c (take at b)) (little 8 (le 8 b at)) ≡ crc_from c (take (at + 8) b)
eight_more b small c at h =
    ap (λ (w : ℕ). crc_from (crc_from c (take at b)) (little 8 w)) (sym (le_part 8 b at)) ∙ crc_next_word 8 c b at small h

-- the rest again, where its place is known to be that one only by an equation
pub rest_at : (c : ℕ) (b : List ℕ) (at from : ℕ) → at ≡ from → crc_from (crc_from c (take at b)) (drop from b) ≡ crc_from c b
rest_at c b at from e = ap (λ (k : ℕ). crc_from (crc_from c (take at b)) (drop k b)) (sym e) ∙ crc_rest c b at
