-- A checksum has 32 bits.
-- Assumes nothing.
use mathlib.Core.List.{List, [], ◌∷◌}
use Prim.Native.Nat.{ℕ, zero, suc, ◌*◌, ◌/◌, ◌%◌, ◌^◌, ◌<◌}
use native.Mathlib.Omega.{arith}
use lib.ListN.{get_or}
use lib.Bits.{bit_xor, xor_lt}
use Rattle.crc32.specs.Crc.{poly, crc_step, crc_steps, crc_byte, crc_from, crc32}

step_below : (c : ℕ) → c < 2 ^ 32 → crc_step c < 2 ^ 32
unfolding crc_step
step_below c h = xor_lt 32 (c / 2) (c % 2 * poly) (omega arith) (omega arith)

steps_below : (n c : ℕ) → c < 2 ^ 32 → crc_steps n c < 2 ^ 32
unfolding crc_steps
steps_below zero c h = h
steps_below (suc n) c h = steps_below n (crc_step c) (step_below c h)

from_below : (c : ℕ) (b : List ℕ) → c < 2 ^ 32 → ((k : ℕ) → get_or b k 0 < 256) → crc_from c b < 2 ^ 32
unfolding crc_from crc_byte
from_below c [] h small = h
from_below c (x ∷ xs) h small =
    let byte : x < 2 ^ 32 = omega (arith, small 0) in
    from_below (crc_byte c x) xs (steps_below 8 (bit_xor c x) (xor_lt 32 c x h byte)) (λ k. small (suc k))

pub checksum_below : (b : List ℕ) → ((k : ℕ) → get_or b k 0 < 256) → crc32 b < 2 ^ 32
checksum_below b small = from_below 0xFFFFFFFF b (omega arith) small
