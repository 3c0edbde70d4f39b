-- The one-bit step is linear over xor, so eight steps of a number are its upper part, xored with eight steps of its low byte: what a
-- table of the 256 bytes' eight steps is for.
use mathlib.Core.Path.{◌≡◌, refl, ap, ap₂, ◌∙◌, sym}
use mathlib.Core.List.{List}
use Prim.Native.Nat.{ℕ, zero, suc, ◌*◌, ◌/◌, ◌%◌, ◌^◌, ◌<◌}
use native.Mathlib.Nat.{mod-lt, zero-lt-suc, mul_assoc, div-eq_of_lt, pow-suc}
use native.Mathlib.Omega.{arith}
use lib.Bits.{bit_xor, differ, xor_zero_r, xor_shr, xor_shifted}
use lib.ListN.{get_or}
use lib.Pow.{split, pow_pos}
use Rattle.crc32.specs.Crc.{Ruled, crc_step, crc_steps, crc_byte, poly}
use Rattle.crc32.proofs.Xor.{Bit, lowest, xor_half, xor_odd, xor_swap}
use Rattle.crc32.proofs.Xor.Bit.{off, on}

-- the polynomial, once for each of two bits
taps : {x y : ℕ} → Bit x → Bit y → differ x y * poly ≡ bit_xor (x * poly) (y * poly)
taps off y = refl
taps on off = refl
taps on on = refl

step_xor : (a b : ℕ) → crc_step (bit_xor a b) ≡ bit_xor (crc_step a) (crc_step b)
unfolding crc_step
step_xor a b =
    ap₂ (λ (h o : ℕ). bit_xor h (o * poly)) (xor_half a b) (xor_odd a b)
    ∙ ap (bit_xor (bit_xor (a / 2) (b / 2))) (taps (lowest a) (lowest b))
    ∙ xor_swap (a / 2) (b / 2) (a % 2 * poly) (b % 2 * poly)

pub steps_xor : (n a b : ℕ) → crc_steps n (bit_xor a b) ≡ bit_xor (crc_steps n a) (crc_steps n b)
unfolding crc_steps
steps_xor zero a b = refl
steps_xor (suc n) a b = ap (crc_steps n) (step_xor a b) ∙ steps_xor n (crc_step a) (crc_step b)

-- n steps of a number whose n low bits are 0 only shift it
step_even : (a : ℕ) → crc_step (a * 2) ≡ a
unfolding crc_step
step_even a =
    let half : a * 2 / 2 ≡ a = omega arith in
    let even : a * 2 % 2 ≡ 0 = omega arith in
    ap₂ (λ (h o : ℕ). bit_xor h (o * poly)) half even ∙ xor_zero_r a

pub steps_high : (n a : ℕ) → crc_steps n (a * 2 ^ n) ≡ a
unfolding crc_steps
steps_high zero a = omega arith
steps_high (suc n) a = rw (pow-suc, ← mul_assoc, step_even) (steps_high n a)

pub low_byte : (v : ℕ) → crc_steps 8 v ≡ bit_xor (v / 256) (crc_steps 8 (v % 256))
low_byte v =
    ap (crc_steps 8) (sym (split v 8) ∙ sym (xor_shifted (v / 256) 8 (v % 256) (mod-lt v (pow_pos 8))))
    ∙ steps_xor 8 (v / 256 * 2 ^ 8) (v % 256)
    ∙ ap (λ (k : ℕ). bit_xor k (crc_steps 8 (v % 256))) (steps_high 8 (v / 256))

-- a byte more, by one entry of a table
pub by_table : (table : List ℕ) (c x : ℕ) → Ruled table → x < 256 → bit_xor (c / 256) (get_or table (bit_xor c x % 256) 0) ≡ crc_byte c x
unfolding crc_byte
by_table table c x rule h =
    let v = bit_xor c x in
    let upper : v / 256 ≡ c / 256 = xor_shr c x 8 ∙ ap (bit_xor (c / 256)) (div-eq_of_lt h) ∙ xor_zero_r (c / 256) in
    ap₂ bit_xor (sym upper) (rule.entry (v % 256) (mod-lt v (zero-lt-suc 255))) ∙ sym (low_byte v)
