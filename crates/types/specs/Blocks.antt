-- Sectors and blocks: "sectors of 512 bytes", "Block: 512 or 4,096"; and how far a disk and its files go.
use Rattle.std.specs.Prelude.{ℕ, ◌+◌, ◌*◌, ◌/◌, ◌%◌, ◌^◌, Bool, ◌&&◌, ◌||◌, leb, ltb, eqb}

-- "sectors of 512 bytes"
abbrev pub sector_bytes : ℕ
sector_bytes = 512

-- the bytes of so many sectors
abbrev pub bytes_of : ℕ → ℕ
bytes_of sectors = sectors * sector_bytes

-- the sectors of a block
abbrev pub block_sectors : ℕ → ℕ
block_sectors block = block / sector_bytes

-- "Block: 512 or 4,096"
abbrev pub good_block : ℕ → Bool
good_block block = eqb block 512 || eqb block 4096

-- "on a block", with the block in the number's own unit
abbrev pub on_block : ℕ → ℕ → Bool
on_block unit n = eqb (n % unit) 0

-- "nonzero multiples of the block"
abbrev pub whole_blocks : ℕ → ℕ → Bool
whole_blocks unit n = ltb 0 n && on_block unit n

-- "end ≤ 2^40": so many sectors from a start
abbrev pub ends_in_reach : ℕ → ℕ → Bool
ends_in_reach start sectors = leb (start + sectors) (2 ^ 40)

-- "(1 to 1,023)", and 02: "Raise the limit to 65,536 zones": the most zones of a report
abbrev pub most_zones : ℕ
most_zones = 65536

-- "more files of either kind than .. 1,022", and 02: "Files in 10 may now be up to 65,535": the most that there can be
abbrev pub most_files : ℕ
most_files = 65535
