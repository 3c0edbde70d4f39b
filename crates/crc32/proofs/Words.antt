-- Bytes may be xored into the register all at once, before as many zero bytes. What the zero bytes make of each of them is an entry of a table.
use mathlib.Core.Path.{◌≡◌, refl, ap, ap₂, ◌∙◌, sym}
use mathlib.Core.List.{List, [], ◌∷◌, ◌++◌, reverse}
use mathlib.Core.Logic.{◌⊎◌, inl, inr}
use Prim.Native.Nat.{ℕ, zero, suc, ◌+◌, ◌-◌, ◌*◌, ◌/◌, ◌%◌, ◌^◌, ◌<◌}
use native.Mathlib.Nat.{mod-lt, zero-lt-suc, pow-suc, div-eq_of_lt, div-div-eq-div-mul}
use native.Mathlib.Numerals.{add-one}
use native.Mathlib.Omega.{arith}
use lib.Bits.{bit_xor, xor_zero_r, xor_comm, xor_shifted}
use lib.ListN.{length, drop, get_or}
use lib.Pow.{shr-shr}
use lib.Seq.{drop-cons}
use Rattle.std.proofs.lemmas.List.{reverse-append, length-reverse}
use Rattle.std.specs.Int.{byte_at, bytes_high_first}
use Rattle.wire.specs.Le.{little}
use Rattle.crc32.specs.Crc.{AllRuled, crc_steps, crc_byte, crc_from}
use Rattle.crc32.proofs.Xor.{xor_assoc}
use Rattle.crc32.proofs.Linear.{steps_xor, steps_high, low_byte}

-- n zero bytes
unfoldable pub zeros : ℕ → ℕ → ℕ
zeros zero c = c
zeros (suc n) c = zeros n (crc_steps 8 c)

zeros_xor : (n a b : ℕ) → zeros n (bit_xor a b) ≡ bit_xor (zeros n a) (zeros n b)
unfolding zeros
zeros_xor zero a b = refl
zeros_xor (suc n) a b = ap (zeros n) (steps_xor 8 a b) ∙ zeros_xor n (crc_steps 8 a) (crc_steps 8 b)

zeros_last : (n c : ℕ) → crc_steps 8 (zeros n c) ≡ zeros (suc n) c
unfolding zeros
zeros_last zero c = refl
zeros_last (suc n) c = zeros_last n (crc_steps 8 c)

-- a byte x and others y above it, xored in all at once: the byte first, and the others after it
word_more : (n c x y : ℕ) → x < 256 → zeros n (bit_xor (crc_byte c x) y) ≡ zeros (suc n) (bit_xor c (x + 256 * y))
unfolding crc_byte zeros
word_more n c x y h =
    let apart : bit_xor x (y * 256) ≡ x + 256 * y = xor_comm x (y * 256) ∙ xor_shifted y 8 x h ∙ omega arith in
    let moved : bit_xor (bit_xor c x) (y * 256) ≡ bit_xor c (x + 256 * y) = xor_assoc c x (y * 256) ∙ ap (bit_xor c) apart in
    ap (zeros n)
    (sym (steps_xor 8 (bit_xor c x) (y * 256) ∙ ap (bit_xor (crc_steps 8 (bit_xor c x))) (steps_high 8 y)) ∙ ap (crc_steps 8) moved)

-- the n bytes of a number, the lowest first
pub by_word : (n c w : ℕ) → w < 256 ^ n → zeros n (bit_xor c w) ≡ crc_from c (little n w)
unfolding little zeros crc_from
by_word zero c w h =
    let none : w ≡ 0 = omega (arith, h) in
    ap (bit_xor c) none ∙ xor_zero_r c
by_word (suc n) c w h =
    let x = w % 256 in
    let y = w / 256 in
    let both : w ≡ x + 256 * y = omega arith in
    let fits : y < 256 ^ n = omega (arith, h, pow-suc 256 n) in
    ap (λ (v : ℕ). zeros (suc n) (bit_xor c v)) both ∙ sym (word_more n c x y (mod-lt w (zero-lt-suc 255))) ∙ by_word n (crc_byte c x) y fits

byte_is : (k v : ℕ) → byte_at k v ≡ v / 256 ^ k % 256
byte_is zero v = omega arith
byte_is (suc k) v = refl

-- bytes looked up, each in a table of its own, and xored in: what a loop over both makes of a number. It takes the bytes from their end.
unfoldable pub looked_up : ℕ → List ℕ → List (List ℕ) → ℕ
looked_up sum [] tables = sum
looked_up sum (x ∷ xs) [] = sum
looked_up sum (x ∷ xs) (table ∷ tables) = looked_up (bit_xor sum (get_or table x 0)) xs tables

pub looked_more : {xs : List ℕ} {ts us : List (List ℕ)} (ys : List ℕ) (sum x : ℕ) (table : List ℕ) → xs ≡ ys ++ x ∷ [] → ts ≡ table ∷ us
    → looked_up (bit_xor sum (get_or table x 0)) (reverse ys) us ≡ looked_up sum (reverse xs) ts
unfolding looked_up
looked_more ys sum x table e f = sym (ap₂ (looked_up sum) (ap reverse e ∙ reverse-append ys (x ∷ [])) f)

none_left : (sum : ℕ) (xs : List ℕ) (ts : List (List ℕ)) → (length ts ≡ 0) ⊎ (length xs ≡ 0) → looked_up sum xs ts ≡ sum
unfolding looked_up
none_left sum [] ts h = refl
none_left sum (x ∷ xs) [] h = refl
none_left sum (x ∷ xs) (t ∷ ts) (inl h) = absurd (omega arith)
none_left sum (x ∷ xs) (t ∷ ts) (inr h) = absurd (omega arith)

pub looked_done : (sum : ℕ) (xs : List ℕ) (ts : List (List ℕ)) → (length ts ≡ 0) ⊎ (length xs ≡ 0) → looked_up sum (reverse xs) ts ≡ sum
looked_done sum xs ts (inl h) = none_left sum (reverse xs) ts (inl h)
looked_done sum xs ts (inr h) = none_left sum (reverse xs) ts (inr (length-reverse xs ∙ h))

module _ (tables : List (List ℕ)) (rule : AllRuled tables) where
  -- the rule of the tables, over the table number
  every_entry : (t k : ℕ) → t < 8 → k < 256 → get_or (get_or tables t []) k 0 ≡ zeros (suc t) k
  unfolding zeros crc_byte
  every_entry zero k ht hk = rule.first.entry k hk
  every_entry (suc t) k ht hk =
      let before = every_entry t k (omega arith) hk in
      rule.next t k (omega arith) hk ∙ ap (crc_steps 8) (xor_zero_r (get_or (get_or tables t []) k 0) ∙ before) ∙ zeros_last (suc t) k

  -- zero bytes after a number: one fewer after its upper part, and an entry for its low byte
  by_entry : (t v : ℕ) → t < 8 → bit_xor (zeros t (v / 256)) (get_or (get_or tables t []) (v % 256) 0) ≡ zeros (suc t) v
  unfolding zeros
  by_entry t v h =
      ap (bit_xor (zeros t (v / 256))) (every_entry t (v % 256) h (mod-lt v (zero-lt-suc 255)))
      ∙ sym (ap (zeros t) (low_byte v) ∙ zeros_xor t (v / 256) (crc_steps 8 (v % 256)))

  -- a turn of a loop that counts the tables, from the highest byte of a number of eight to the lowest
  pub by_turn : (t v sum : ℕ) → t < 8 → sum ≡ zeros t (v / 2 ^ (64 - 8 * t))
      → bit_xor sum (get_or (get_or tables t []) (v / 2 ^ (56 - 8 * t) % 256) 0) ≡ zeros (t + 1) (v / 2 ^ (64 - 8 * (t + 1)))
  by_turn t v sum h e =
      let u = v / 2 ^ (56 - 8 * t) in
      let above : 64 - 8 * t ≡ 56 - 8 * t + 8 = omega arith in
      let here : 64 - 8 * (t + 1) ≡ 56 - 8 * t = omega arith in
      let upper : v / 2 ^ (64 - 8 * t) ≡ u / 256 = ap (λ (k : ℕ). v / 2 ^ k) above ∙ sym (shr-shr v (56 - 8 * t) 8) in
      ap (λ (k : ℕ). bit_xor k (get_or (get_or tables t []) (u % 256) 0)) (e ∙ ap (zeros t) upper)
      ∙ by_entry t u h
      ∙ sym (ap₂ (λ (n k : ℕ). zeros n (v / 2 ^ k)) (add-one t) here)

  -- a table more: the byte k of a number, after those above it
  by_byte : (k t v : ℕ) → t < 8 → bit_xor (zeros t (v / 256 ^ suc k)) (get_or (get_or tables t []) (byte_at k v) 0) ≡ zeros (suc t) (v / 256 ^ k)
  by_byte k t v h =
      let upper : v / 256 ^ suc k ≡ v / 256 ^ k / 256 = ap (λ (m : ℕ). v / m) (pow-suc 256 k) ∙ sym (div-div-eq-div-mul v (256 ^ k) 256) in
      ap₂ (λ (u x : ℕ). bit_xor (zeros t u) (get_or (get_or tables t []) x 0)) upper (byte_is k v) ∙ by_entry t (v / 256 ^ k) h

  by_tables : (k t v : ℕ) → t + k ≡ 8 → length tables ≡ 8 → looked_up (zeros t (v / 256 ^ k)) (bytes_high_first k v) (drop t tables) ≡ zeros 8 v
  unfolding looked_up
  by_tables zero t v e eight =
      let all : t ≡ 8 = omega arith in
      let whole : v / 1 ≡ v = omega arith in
      ap₂ zeros all whole
  by_tables (suc k) t v e eight =
      ap (looked_up (zeros t (v / 256 ^ suc k)) (bytes_high_first (suc k) v)) (drop-cons tables t [] (omega arith))
      ∙ ap (λ (s : ℕ). looked_up s (bytes_high_first k v) (drop (suc t) tables)) (by_byte k t v (omega arith))
      ∙ by_tables k (suc t) v (omega arith) eight

  -- the eight bytes of a number, the highest first, each in its table: as many zero bytes after it
  pub by_eight : (v : ℕ) → v < 256 ^ 8 → length tables ≡ 8 → looked_up 0 (bytes_high_first 8 v) tables ≡ zeros 8 v
  unfolding zeros
  by_eight v fits eight =
      ap (λ (s : ℕ). looked_up s (bytes_high_first 8 v) tables) (sym (div-eq_of_lt fits)) ∙ by_tables 8 0 v refl eight
