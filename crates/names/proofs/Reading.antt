-- Reading a decimal byte by byte: what the bytes so far are, and which bytes stand in no decimal of a file's number.
-- Assumes nothing.
use Prim.Native.Nat.{ℕ, ◌+◌, ◌-◌, ◌*◌, ◌≤◌, ◌<◌}
use native.Mathlib.Omega.{arith}
use native.Mathlib.Decide.{dec_le}
use native.Mathlib.Numerals.{add-one}
use mathlib.Core.Path.{◌≡◌, refl, sym, ◌∙◌, ap}
use mathlib.Core.Bool.{true, false, ◌&&◌, false≢true}
use mathlib.Core.List.{List, [], ◌∷◌, ◌++◌}
use lib.ListN.{length, get_or, take, drop, take-append-drop}
use lib.Seq.{take-suc, take-length, get_or-take}
use lib.Dec.{ltb, eqb}
use Rattle.std.specs.Char.{is_ascii_digit}
use borrow.Author.Tests.{ltb-true, lt-ltb, le-leb, eqb-true, eqb-false}
use Rattle.types.specs.Blocks.{most_files}
use Rattle.types.proofs.Tests.{both, and_left, and_right}
use Rattle.text.specs.Text.{digit_byte, digits_of, decimal}
use Rattle.text.proofs.Decimal.{IsDigit, decimal-one, decimal_more, decimal_some, decimal_digit, decimal_first, value_from, value_append, value_grows, decimal_value}

-- what the library tests for no digit is none
pub no_digit_tested : (b : ℕ) → is_ascii_digit b ≡ false → IsDigit b → ⊥
no_digit_tested b h d = false≢true (sym h ∙ both (le-leb 48 b d.low) (le-leb b 57 d.high))

-- the first i bytes of a text are the decimal of a value, and there is none of no byte
pub record ReadTo (text : List ℕ) (i value : ℕ) : Type 0 where
  pub within : i ≤ length text
  pub small : value < most_files
  pub none : i ≡ 0 → value ≡ 0
  pub some : 0 < i → take i text ≡ decimal value

pub read_start : (text : List ℕ) → ReadTo text 0 0
read_start text = record { within = omega arith; small = omega arith; none = λ e. refl; some = λ l. absurd (omega arith) }

module _ (text : List ℕ) (i value : ℕ) (r : ReadTo text i value) where
  read_value : value_from 0 (take i text) ≡ value
  unfolding value_from
  read_value = elim (dec_le 1 i) [
    | yes h ↦ ap (value_from 0) (r.some h) ∙ decimal_value value
    | no h ↦ let z : i ≡ 0 = omega arith in rw z (sym (r.none z))
  ]

  -- all of it
  pub read_whole : i ≡ length text → 0 < i → text ≡ decimal value
  read_whole e h = sym (take-length text) ∙ ap (λ (n : ℕ). take n text) (sym e) ∙ r.some h

  module _ (l : i < length text) where
    next_taken : take (i + 1) text ≡ take i text ++ get_or text i 0 ∷ []
    next_taken = ap (λ (n : ℕ). take n text) (add-one i) ∙ take-suc text i 0 l

    next_value : value_from 0 (take (i + 1) text) ≡ value * 10 + (get_or text i 0 - 48)
    unfolding value_from
    next_value = rw (next_taken, value_append, read_value)

    -- one more byte
    pub read_more : IsDigit (get_or text i 0) → ltb 0 i && eqb value 0 ≡ false → value * 10 + (get_or text i 0 - 48) < most_files
        → ReadTo text (i + 1) (value * 10 + (get_or text i 0 - 48))
    read_more digit lead small =
        record { within = omega arith; small = small; none = λ e. absurd (omega arith); some = λ h. next_taken ∙ extended }
      where
        byte : digit_byte (get_or text i 0 - 48) ≡ get_or text i 0
        byte = omega (arith, digit.low)

        small_digit : get_or text i 0 - 48 < 10
        small_digit = omega (arith, digit.high)

        positive : 0 < i → 0 < value
        positive h = let z : eqb value 0 ≡ false = rw (lt-ltb 0 i h) at lead in omega (arith, eqb-false value 0 z)

        extended : take i text ++ get_or text i 0 ∷ [] ≡ decimal (value * 10 + (get_or text i 0 - 48))
        extended = elim (dec_le 1 i) [
          | yes h ↦ sym (decimal_more value (get_or text i 0 - 48) (positive h) small_digit ∙ rw (byte, r.some h))
          | no h ↦
              let z : i ≡ 0 = omega arith in
              let v : value ≡ 0 = r.none z in
              let d : value * 10 + (get_or text i 0 - 48) ≡ get_or text i 0 - 48 = omega arith in
              ap (λ (n : ℕ). take n text ++ get_or text i 0 ∷ []) z
              ∙ sym (ap decimal d ∙ decimal-one (get_or text i 0 - 48) small_digit ∙ ap (λ (b : ℕ). b ∷ []) byte)
        ]

    -- what is no digit stands in no decimal
    pub not_digit : (IsDigit (get_or text i 0) → ⊥) → (n : ℕ) → text ≡ decimal n → ⊥
    not_digit odd n e = odd (rw e (decimal_digit n i (rw e at l)))

    -- 0 leads no longer decimal
    pub not_leading : ltb 0 i && eqb value 0 ≡ true → (n : ℕ) → text ≡ decimal n → ⊥
    unfolding digits_of
    not_leading t n e =
        let p : 0 < i = ltb-true 0 i (and_left (ltb 0 i) (eqb value 0) t) in
        let z : value ≡ 0 = eqb-true value 0 (and_right (ltb 0 i) (eqb value 0) t) in
        let first : get_or text 0 0 ≡ 48 = sym (get_or-take i text 0 0 p) ∙ ap (λ (b : List ℕ). get_or b 0 0) (r.some p ∙ ap decimal z) in
        decimal_first n (let m : i < length (decimal n) = rw e at l in omega arith) (rw e at first)

    -- more bytes make no smaller number
    pub not_large : most_files ≤ value * 10 + (get_or text i 0 - 48) → (n : ℕ) → n < most_files → text ≡ decimal n → ⊥
    not_large h n s e =
        let v : value_from 0 text ≡ n = ap (value_from 0) e ∙ decimal_value n in
        let w : value_from 0 text ≡ value_from (value_from 0 (take (i + 1) text)) (drop (i + 1) text) =
        ap (value_from 0) (sym (take-append-drop (i + 1) text)) ∙ value_append 0 (take (i + 1) text) (drop (i + 1) text) in
        omega (arith, value_grows (value_from 0 (take (i + 1) text)) (drop (i + 1) text), next_value)

pub not_empty : (text : List ℕ) → length text ≡ 0 → (n : ℕ) → text ≡ decimal n → ⊥
not_empty text z n e = let s : 0 < length (decimal n) = decimal_some n in let w : length (decimal n) ≡ 0 = rw e at z in omega arith
