use Rattle.crc32.proofs.Words.{looked_up}
use Rattle.std.specs.Int.{bytes_high_first}
use mathlib.Core.List.{reverse}
use mathlib.Core.Path.{◌≡◌}
use lib.Bits.{bit_xor}
use Rattle.crc32.proofs.next_eight.Given as goal

-- carried on over the bytes and the tables that are left, the sum gives the whole result
abbrev pub invariant-loop-table : goal.invariant-loop-table
invariant-loop-table l =
    looked_up l.sum (reverse l.table-iterator.b.iter.rest.now) l.table-iterator.a.rest.now ≡ looked_up 0 (bytes_high_first 8 (bit_xor l.crc l.word)) l.tables
