-- Which test of good input a zone fails first. 02: "A bad zone's refusal carries a reason, the first of: 1 start, 2 length, 3 capacity (also a
-- conventional one's), 4 end, 5 type, 6 condition, 7 pointer." A zone is good input exactly if it has no fault (the laws `record_faultless` and
-- `zone_faultless`), and a fault is the first in order: no test before it fails, and its own does (the law `first_fault_lem`).
use Rattle.std.specs.Prelude.{ℕ, List, [], ◌∷◌, Bool, true, false, Option, Some, None}
use Rattle.types.specs.declared.ZoneFault.{ZoneFault}
use Rattle.types.specs.declared.ZoneFault.TheVariants as fault
use Rattle.zones.specs.declared.Zone.{Zone}
use Rattle.zones.specs.Zone.{starts_at, good_length, good_capacity, good_end, good_type, good_condition, good_pointer}

-- a test that was made of a zone: whether it was passed, and the fault of a zone that fails it
pub record ZoneTest : Type 0 where
  pub passed : Bool
  pub fault : ZoneFault

abbrev pub test : Bool → ZoneFault → ZoneTest
test passed x = record { passed = passed; fault = x }

-- one test: what the rest finds where it is passed, else its fault
unfoldable pub fault_unless : Bool → ZoneFault → Option ZoneFault → Option ZoneFault
fault_unless true x rest = rest
fault_unless false x rest = Some x

-- "the first of": what the first test that fails finds, in the order of the list
unfoldable pub first_fault : List ZoneTest → Option ZoneFault
first_fault [] = None
first_fault (t ∷ ts) = fault_unless t.passed t.fault (first_fault ts)

-- of a record, wherever its zone starts
abbrev pub record_tests : ℕ → Zone → List ZoneTest
record_tests unit z =
    test (good_length unit z) fault.Length
    ∷ test (good_capacity unit z) fault.Capacity
    ∷ test (good_end z) fault.End
    ∷ test (good_type z) fault.Type
    ∷ test (good_condition z) fault.Condition
    ∷ test (good_pointer unit z) fault.Pointer
    ∷ []

unfoldable pub record_fault : ℕ → Zone → Option ZoneFault
record_fault unit z = first_fault (record_tests unit z)

-- of a zone of a report, where the one before it ended at `expected`
abbrev pub zone_tests : ℕ → ℕ → Zone → List ZoneTest
zone_tests unit expected z = test (starts_at expected z) fault.Start ∷ record_tests unit z

unfoldable pub zone_fault : ℕ → ℕ → Zone → Option ZoneFault
zone_fault unit expected z = first_fault (zone_tests unit expected z)

abbrev pub is_faultless : Option ZoneFault → Bool
is_faultless None = true
is_faultless (Some x) = false
