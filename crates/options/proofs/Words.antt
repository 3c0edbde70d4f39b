-- Which words the piece so far could still become, as the bytes come: those that begin with it; and which of them it is, those that end with it too.
-- Assumes nothing.
use Prim.Native.Nat.{ℕ, ◌+◌, ◌*◌, ◌%◌, min}
use native.Mathlib.Nat.{add_comm, mul_comm}
use native.Mathlib.Omega.{arith}
use mathlib.Core.Bool.{Bool, true, false, not, ◌&&◌, and_assoc, and-true}
use mathlib.Core.Path.{◌≡◌, refl, ◌∙◌, ap, sym}
use mathlib.Core.Logic.{◌≢◌}
use mathlib.Core.List.{List, [], ◌∷◌, ◌++◌}
use lib.ListN.{length, get_or}
use lib.Bits.{bit_and, and_step, and_zero_l}
use lib.Dec.{eqb}
use borrow.Author.Tests.{eq-eqb, ne_eqb, not-true}
use Rattle.types.specs.Codes.{flag_code}
use Rattle.types.proofs.Tests.{and_left, and_right}
use Rattle.text.specs.Text.{same}
use Rattle.options.specs.Options.{comma}
use Rattle.options.specs.Reading.{Word, words, piece_among, has_first, others, all_words, letter_at, having, piece_in}

-- ---- one word

-- a text begins with these bytes
begins : List ℕ → List ℕ → Bool
begins [] text = true
begins (x ∷ xs) [] = false
begins (x ∷ xs) (y ∷ ys) = eqb x y && begins xs ys

-- it does with one byte more, if that is its next one. Past its end stands a comma, which this byte isn't.
goes_on_lem : (x : ℕ) → x ≢ comma → (p text : List ℕ) → begins (p ++ (x ∷ [])) text ≡ (begins p text && eqb x (get_or text (length p) comma))
unfolding begins
goes_on_lem x other [] [] = sym (ne_eqb x comma other)
goes_on_lem x other [] (y ∷ ys) = and-true (eqb x y)
goes_on_lem x other (z ∷ zs) [] = refl
goes_on_lem x other (z ∷ zs) (y ∷ ys) = rw (goes_on_lem x other zs ys) (sym (and_assoc (eqb z y) (begins zs ys) (eqb x (get_or ys (length zs) comma))))

-- no comma is in it
plain : List ℕ → Bool
plain [] = true
plain (x ∷ xs) = not (eqb comma x) && plain xs

-- it is these bytes, if it begins with them and has a comma next: past its end
ends : (p text : List ℕ) → plain text ≡ true → same p text ≡ (begins p text && eqb comma (get_or text (length p) comma))
unfolding begins plain same
ends [] [] h = refl
ends [] (y ∷ ys) h = sym (not-true (eqb comma y) (and_left (not (eqb comma y)) (plain ys) h))
ends (x ∷ xs) [] h = refl
ends (x ∷ xs) (y ∷ ys) h =
    rw (ends xs ys (and_right (not (eqb comma y)) (plain ys) h)) (sym (and_assoc (eqb x y) (begins xs ys) (eqb comma (get_or ys (length xs) comma))))

-- ---- the words

-- those that begin with these bytes, as a set
pub beginning : List ℕ → List Word → ℕ
beginning p [] = 0
beginning p (w ∷ ws) = flag_code (begins p w.text) + 2 * beginning p ws

first_bit : (f : Bool) (rest : ℕ) → has_first (flag_code f + 2 * rest) ≡ f
first_bit true rest = eq-eqb ((1 + 2 * rest) % 2) 1 (omega arith)
first_bit false rest = ne_eqb ((0 + 2 * rest) % 2) 1 (omega arith)

other_bits : (f : Bool) (rest : ℕ) → others (flag_code f + 2 * rest) ≡ rest
other_bits true rest = omega arith
other_bits false rest = omega arith

low_bit : (f : Bool) (rest : ℕ) → (flag_code f + 2 * rest) % 2 ≡ flag_code f
low_bit true rest = omega arith
low_bit false rest = omega arith

both_flags : (f g : Bool) → min (flag_code f) (flag_code g) ≡ flag_code (f && g)
both_flags true true = refl
both_flags true false = refl
both_flags false true = refl
both_flags false false = refl

-- the words of both sets
both : (f g : Bool) (a b : ℕ) → bit_and (flag_code f + 2 * a) (flag_code g + 2 * b) ≡ flag_code (f && g) + 2 * bit_and a b
both f g a b =
    and_step (flag_code f + 2 * a) (flag_code g + 2 * b)
    ∙ rw (other_bits f a, other_bits g b, low_bit f a, low_bit g b, both_flags f g) (add_comm (bit_and a b * 2) (flag_code (f && g)) ∙ ap (λ (n : ℕ). flag_code (f && g) + n) (mul_comm (bit_and a b) 2))

pub going_on_lem : (x : ℕ) → x ≢ comma → (p : List ℕ) (ws : List Word) → bit_and (beginning p ws) (having x (length p) ws) ≡ beginning (p ++ (x ∷ [])) ws
unfolding having beginning
going_on_lem x other p [] = and_zero_l 0
going_on_lem x other p (w ∷ ws) =
    both (begins p w.text) (eqb x (letter_at (length p) w)) (beginning p ws) (having x (length p) ws)
    ∙ rw (going_on_lem x other p ws, goes_on_lem x other p w.text)

all_plain : List Word → Bool
all_plain [] = true
all_plain (w ∷ ws) = plain w.text && all_plain ws

piece_whole : (p : List ℕ) (ws : List Word) → all_plain ws ≡ true → piece_in ws (bit_and (beginning p ws) (having comma (length p) ws)) ≡ piece_among ws p
unfolding having beginning piece_in piece_among all_plain
piece_whole p [] h = refl
piece_whole p (w ∷ ws) h =
    let whole = begins p w.text && eqb comma (letter_at (length p) w) in
    let rest = bit_and (beginning p ws) (having comma (length p) ws) in
    rw (both (begins p w.text) (eqb comma (letter_at (length p) w)) (beginning p ws) (having comma (length p) ws), first_bit whole rest, other_bits whole rest, ends p w.text (and_left (plain w.text) (all_plain ws) h), piece_whole p ws (and_right (plain w.text) (all_plain ws) h))

-- of the words that there are: none has a comma, and all of them begin with nothing
words-plain : all_plain words ≡ true
unfolding words all_plain plain
words-plain = refl

pub word_whole : (p : List ℕ) → piece_in words (bit_and (beginning p words) (having comma (length p) words)) ≡ piece_among words p
word_whole p = piece_whole p words words-plain

pub begun : beginning [] words ≡ all_words
unfolding words beginning begins
begun = refl
