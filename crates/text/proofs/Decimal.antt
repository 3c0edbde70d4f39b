-- Decimals: one more digit, what their digits are, how many there are, and their value.
-- Assumes nothing.
use Prim.Native.Nat.{ℕ, zero, suc, ◌+◌, ◌-◌, ◌*◌, ◌/◌, ◌%◌, ◌^◌, ◌≤◌, ◌<◌}
use native.Mathlib.Omega.{arith}
use native.Mathlib.Decide.{dec_le}
use native.Mathlib.Nat.{lt_of_not-le, pow-suc}
use mathlib.Core.Path.{◌≡◌, refl, sym, ◌∙◌, ap}
use mathlib.Core.List.{List, [], ◌∷◌, ◌++◌}
use lib.ListN.{length, get_or, length-append, get_or-append}
use borrow.Author.Tests.{lt-ltb, le-ltb}
use Rattle.text.specs.Text.{digit_byte, digits_of, decimal}

-- ONE DIGIT, AND ONE MORE

digits_one : (f n : ℕ) → n < 10 → digits_of (suc f) n ≡ digit_byte n ∷ []
unfolding digits_of
digits_one f n h = rw (lt-ltb n 10 h)

digits_more : (f n : ℕ) → 10 ≤ n → digits_of (suc f) n ≡ digits_of f (n / 10) ++ digit_byte (n % 10) ∷ []
unfolding digits_of
digits_more f n h = rw (le-ltb n 10 h)

-- either holds
digits_by : {X : Type 0} (n : ℕ) → (n < 10 → X) → (10 ≤ n → X) → X
digits_by n f g = elim (dec_le 10 n) [
  | yes h ↦ g h
  | no h ↦ f (lt_of_not-le h)
]

-- how many digits are allowed for makes no difference
digits_enough : (f g n : ℕ) → n < f → n < g → digits_of f n ≡ digits_of g n
digits_enough zero g n a b = absurd (omega arith)
digits_enough (suc f) zero n a b = absurd (omega arith)
digits_enough (suc f) (suc g) n a b =
    digits_by n
    (λ h. digits_one f n h ∙ sym (digits_one g n h))
    (λ h. digits_more f n h ∙ ap (λ (l : List ℕ). l ++ digit_byte (n % 10) ∷ []) (digits_enough f g (n / 10) (omega arith) (omega arith)) ∙ sym (digits_more g n h))

pub decimal-one : (d : ℕ) → d < 10 → decimal d ≡ digit_byte d ∷ []
decimal-one d h = digits_one d d h

pub decimal_more : (n d : ℕ) → 0 < n → d < 10 → decimal (n * 10 + d) ≡ decimal n ++ digit_byte d ∷ []
decimal_more n d p h =
    let q : (n * 10 + d) / 10 ≡ n = omega arith in
    let r : (n * 10 + d) % 10 ≡ d = omega arith in
    digits_more (n * 10 + d) (n * 10 + d) (omega arith)
    ∙ rw (q, r) (ap (λ (l : List ℕ). l ++ digit_byte d ∷ []) (digits_enough (n * 10 + d) (suc n) n (omega arith) (omega arith)))

-- a number of more digits than one: its last stands after the others
pub last_digit : (n : ℕ) → 10 ≤ n → decimal n ≡ decimal (n / 10) ++ digit_byte (n % 10) ∷ []
last_digit n h =
    let e : n / 10 * 10 + n % 10 ≡ n = omega arith in
    ap decimal (sym e) ∙ decimal_more (n / 10) (n % 10) (omega arith) (omega arith)

-- HOW MANY THERE ARE

-- the number without its last digit has a digit less
pub shorter : (k n : ℕ) → 0 < k → n < 10 ^ k → n / 10 < 10 ^ (k - 1)
shorter zero n p h = absurd (omega arith)
shorter (suc k) n p h = let e : suc k - 1 ≡ k = omega arith in rw e (omega (arith, pow-suc 10 k))

-- so it has a digit at all
pub some_left : (k n : ℕ) → n < 10 ^ k → 10 ≤ n → 1 < k
some_left zero n h g = absurd (omega arith)
some_left (suc zero) n h g = absurd (omega arith)
some_left (suc (suc k)) n h g = omega arith

digits_some : (f n : ℕ) → 0 < length (digits_of (suc f) n)
digits_some f n =
    digits_by n
    (λ h. rw (digits_one f n h) (omega arith))
    (λ h. rw digits_more (omega (arith, length-append (digits_of f (n / 10)) (digit_byte (n % 10) ∷ []))))

pub decimal_some : (n : ℕ) → 0 < length (decimal n)
decimal_some n = digits_some n n

-- WHAT THE DIGITS ARE

-- each is a digit
pub record IsDigit (b : ℕ) : Type 0 where
  pub low : 48 ≤ b
  pub high : b ≤ 57

AllDigits : List ℕ → Type 0
AllDigits [] = Unit
AllDigits (b ∷ bs) = IsDigit b × AllDigits bs

all_append : (bs cs : List ℕ) → AllDigits bs → AllDigits cs → AllDigits (bs ++ cs)
unfolding AllDigits
all_append [] cs h g = g
all_append (b ∷ bs) cs (d, h) g = (d, all_append bs cs h g)

all_at : (bs : List ℕ) (i : ℕ) → AllDigits bs → i < length bs → IsDigit (get_or bs i 0)
unfolding AllDigits
all_at [] i h l = absurd (omega arith)
all_at (b ∷ bs) zero (d, h) l = d
all_at (b ∷ bs) (suc i) (d, h) l = all_at bs i h (omega arith)

a_digit : (d : ℕ) → d < 10 → AllDigits (digit_byte d ∷ [])
unfolding AllDigits
a_digit d h = (record { low = omega arith; high = omega arith }, tt)

digits_are : (f n : ℕ) → AllDigits (digits_of f n)
unfolding AllDigits digits_of
digits_are zero n = tt
digits_are (suc f) n =
    digits_by n
    (λ h. rw (digits_one f n h) (a_digit n h))
    (λ h. rw (digits_more f n h) (all_append (digits_of f (n / 10)) (digit_byte (n % 10) ∷ []) (digits_are f (n / 10)) (a_digit (n % 10) (omega arith))))

pub decimal_digit : (n i : ℕ) → i < length (decimal n) → IsDigit (get_or (decimal n) i 0)
decimal_digit n i l = all_at (decimal n) i (digits_are (suc n) n) l

-- the first of two or more is not 0
digits_first : (f n : ℕ) → n < f → 0 < n → get_or (digits_of f n) 0 0 ≡ 48 → ⊥
digits_first zero n a p = absurd (omega arith)
digits_first (suc zero) n a p = absurd (omega arith)
digits_first (suc (suc f)) n a p =
    digits_by n
    (λ h. rw (digits_one (suc f) n h) (λ q. omega arith))
    (λ h. rw (digits_more (suc f) n h, get_or-append (digits_of (suc f) (n / 10)) (digit_byte (n % 10) ∷ []) 0 0 (digits_some f (n / 10)))
    (digits_first (suc f) (n / 10) (omega arith) (omega arith)))

pub decimal_first : (n : ℕ) → 1 < length (decimal n) → get_or (decimal n) 0 0 ≡ 48 → ⊥
decimal_first n l =
    digits_by n
    (λ h. absurd (let e : 1 < 1 = rw (digits_one n n h) at l in omega arith))
    (λ h. digits_first (suc n) n (omega arith) (omega arith))

-- THEIR VALUE

unfoldable pub value_from : ℕ → List ℕ → ℕ
value_from v [] = v
value_from v (b ∷ bs) = value_from (v * 10 + (b - 48)) bs

pub value_append : (v : ℕ) (bs cs : List ℕ) → value_from v (bs ++ cs) ≡ value_from (value_from v bs) cs
unfolding value_from
value_append v [] cs = refl
value_append v (b ∷ bs) cs = value_append (v * 10 + (b - 48)) bs cs

pub value_grows : (v : ℕ) (bs : List ℕ) → v ≤ value_from v bs
unfolding value_from
value_grows v [] = omega arith
value_grows v (b ∷ bs) = omega (arith, value_grows (v * 10 + (b - 48)) bs)

value_digits : (f n : ℕ) → n < f → value_from 0 (digits_of f n) ≡ n
unfolding value_from
value_digits zero n a = absurd (omega arith)
value_digits (suc f) n a =
    digits_by n
    (λ h. rw (digits_one f n h) (omega arith))
    (λ h. rw (digits_more f n h, value_append, value_digits f (n / 10) (omega arith)) (omega arith))

pub decimal_value : (n : ℕ) → value_from 0 (decimal n) ≡ n
decimal_value n = value_digits (suc n) n (omega arith)

pub decimal-same : (n k : ℕ) → decimal n ≡ decimal k → n ≡ k
decimal-same n k e = sym (decimal_value n) ∙ ap (value_from 0) e ∙ decimal_value k
