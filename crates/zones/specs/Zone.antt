-- A zone record, when it is good input, and what it says of its zone. Numbers of a record are in sectors of 512 bytes.
-- Everywhere `unit` is the block in sectors.
use Rattle.std.specs.Prelude.{ℕ, ◌+◌, ◌-◌, List, ◌∷◌, ◌++◌, Bool, cond, not, ◌&&◌, ◌||◌, get_or, leb, eqb}
use Rattle.types.specs.declared.Condition.{Condition}
use Rattle.types.specs.declared.Condition.TheVariants.{Healthy, ReadOnly, Offline}
use Rattle.types.specs.Blocks.{bytes_of, on_block, whole_blocks, ends_in_reach}
use Rattle.types.specs.Predicates.{is_healthy}
use Rattle.wire.specs.Le.{le, little}
use Rattle.zones.specs.declared.Zone.{Zone}

-- ---- its bytes

-- "Zone of 64 bytes"
abbrev pub zone_bytes : ℕ
zone_bytes = 64

-- "start u64 at 0, length at 8, write pointer at 16, type byte at 24, condition byte at 25, capacity u64 at 32; other bytes ignored.
-- Flag clear: capacity is length."
abbrev pub zone_at : Bool → List ℕ → ℕ → Zone
zone_at given b at =
    record {
      start = le 8 b at;
      length = le 8 b (at + 8);
      pointer = le 8 b (at + 16);
      kind = get_or b (at + 24) 0;
      condition = get_or b (at + 25) 0;
      capacity = cond given (le 8 b (at + 32)) (le 8 b (at + 8));
    }

-- the other way round: the record of a zone whose capacity is given, with its other bytes zero
unfoldable pub encode_zone : Zone → List ℕ
encode_zone z =
    little 8 z.start ++ (little 8 z.length ++ (little 8 z.pointer ++ (z.kind ∷ z.condition ∷ (little 6 0 ++
    (little 8 z.capacity ++ little 24 0)))))

-- ---- what a record says

-- "Type 1 (conventional)"
abbrev pub conventional : Zone → Bool
conventional z = eqb z.kind 1

-- "Types 2 and 3 (sequential)"
abbrev pub sequential : Zone → Bool
sequential z = eqb z.kind 2 || eqb z.kind 3

-- "Condition 13 is read-only, 15 offline, others healthy."
abbrev pub condition_of : Zone → Condition
condition_of z = cond (eqb z.condition 13) ReadOnly (cond (eqb z.condition 15) Offline Healthy)

abbrev pub healthy : Zone → Bool
healthy z = is_healthy (condition_of z)

-- 02, "Full zones": condition 14
abbrev pub full : Zone → Bool
full z = eqb z.condition 14

-- 02: "For condition 14 the pointer is ignored and the size is the capacity"; else "sequential size = (pointer − start) × 512"
abbrev pub written_size : Zone → ℕ
written_size z = cond (full z) (bytes_of z.capacity) (bytes_of (z.pointer - z.start))

-- ---- "A zone is good input if", test by test

-- "the first starts at 0, each next where the last ended"
abbrev pub starts_at : ℕ → Zone → Bool
starts_at expected z = eqb z.start expected

-- "length and capacity are nonzero multiples of the block"
abbrev pub good_length : ℕ → Zone → Bool
good_length unit z = whole_blocks unit z.length

-- "capacity ≤ length", and of a conventional zone "capacity = length"
abbrev pub good_capacity : ℕ → Zone → Bool
good_capacity unit z =
    whole_blocks unit z.capacity && leb z.capacity z.length && (not (conventional z) || eqb z.capacity z.length)

-- "end ≤ 2^40"
abbrev pub good_end : Zone → Bool
good_end z = ends_in_reach z.start z.length

abbrev pub good_type : Zone → Bool
good_type z = conventional z || sequential z

-- "Type 1 (conventional): condition 0, 13 or 15"
abbrev pub conventional_condition : ℕ → Bool
conventional_condition c = eqb c 0 || eqb c 13 || eqb c 15

-- "Types 2 and 3 (sequential): 1, 2, 3, 4, 13, 14 or 15"
abbrev pub sequential_condition : ℕ → Bool
sequential_condition c = leb 1 c && leb c 4 || eqb c 13 || eqb c 14 || eqb c 15

abbrev pub good_condition : Zone → Bool
good_condition z = cond (conventional z) (conventional_condition z.condition) (sequential_condition z.condition)

-- a healthy sequential zone says how much of it is written
abbrev pub says_size : Zone → Bool
says_size z = sequential z && healthy z

-- by its pointer, unless it is full: this pointer is looked at, and no other
abbrev pub pointed : Zone → Bool
pointed z = says_size z && not (full z)

-- "the pointer lies in start..start+capacity on a block"
abbrev pub points_well : ℕ → Zone → Bool
points_well unit z = leb z.start z.pointer && leb z.pointer (z.start + z.capacity) && on_block unit z.pointer

-- "for 1 to 4": where it is looked at
abbrev pub good_pointer : ℕ → Zone → Bool
good_pointer unit z = not (pointed z) || points_well unit z

-- a record that is good input wherever its zone starts
unfoldable pub good_record : ℕ → Zone → Bool
good_record unit z =
    good_length unit z && good_capacity unit z && good_end z && good_type z && good_condition z && good_pointer unit z

-- a zone of a report that is good input where the one before it ended at `expected`
unfoldable pub good_zone : ℕ → ℕ → Zone → Bool
good_zone unit expected z = starts_at expected z && good_record unit z
