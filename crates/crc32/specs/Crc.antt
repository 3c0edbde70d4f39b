-- The checksum, bit by bit, and the rules of its tables: "reflected CRC-32, polynomial 0xEDB88320, start all ones, NO final inversion, over
-- all 4,096 bytes with the checksum field taken as zero".
use Rattle.std.specs.Prelude.{◌≡◌, List, [], ◌∷◌, ◌++◌, ℕ, zero, suc, ◌*◌, ◌/◌, ◌%◌, ◌<◌, take, drop, get_or}
use Rattle.std.specs.Int.Bits.{bit_xor}

-- "polynomial 0xEDB88320"
abbrev pub poly : ℕ
poly = 0xEDB88320

-- "the one-bit rule", "reflected": the register moves down one bit, and the polynomial is xored in where the bit that falls out is 1
unfoldable pub crc_step : ℕ → ℕ
crc_step c = bit_xor (c / 2) (c % 2 * poly)

-- n bits
unfoldable pub crc_steps : ℕ → ℕ → ℕ
crc_steps zero c = c
crc_steps (suc n) c = crc_steps n (crc_step c)

-- a byte: xored in, then eight bits
unfoldable pub crc_byte : ℕ → ℕ → ℕ
crc_byte c x = crc_steps 8 (bit_xor c x)

-- the bytes in order, from the register c
unfoldable pub crc_from : ℕ → List ℕ → ℕ
crc_from c [] = c
crc_from c (x ∷ xs) = crc_from (crc_byte c x) xs

-- "start all ones, NO final inversion"
abbrev pub crc32 : List ℕ → ℕ
crc32 b = crc_from 0xFFFFFFFF b

-- "with the checksum field taken as zero": "checksum u32 at 4". Fewer bytes are taken as far as they go.
unfoldable pub superblock_crc : List ℕ → ℕ
superblock_crc b = crc32 (take 4 b ++ (0 ∷ 0 ∷ 0 ∷ 0 ∷ []) ++ drop 8 b)

-- "a table of 256 remainders, each shown to follow the one-bit rule": the entry of each byte is that byte after eight bits
pub record Ruled (table : List ℕ) : Type 0 where
  pub entry : (k : ℕ) → k < 256 → get_or table k 0 ≡ crc_steps 8 k

-- "eight tables of 256, each table's rule shown once over the table number": the first is as above, and each entry of table t + 1 is that of table t
-- after a zero byte more
pub record AllRuled (tables : List (List ℕ)) : Type 0 where
  pub first : Ruled (get_or tables 0 [])
  pub next : (t k : ℕ) → t < 7 → k < 256 → get_or (get_or tables (suc t) []) k 0 ≡ crc_byte (get_or (get_or tables t []) k 0) 0
