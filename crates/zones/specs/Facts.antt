-- What a good zone tells: functions that are called only after these tests ask for it. And what a fault tells.
use Rattle.std.specs.Prelude.{ℕ, ◌+◌, ◌^◌, ◌≤◌, ◌≡◌, Bool, true, false, ◌&&◌, List, [], ◌∷◌, ◌++◌, Some}
use Rattle.types.specs.declared.ZoneFault.{ZoneFault}
use Rattle.types.specs.Codes.{fault_code}
use Rattle.zones.specs.declared.Zone.{Zone}
use Rattle.zones.specs.Zone.{pointed}
use Rattle.zones.specs.Faults.{ZoneTest, test}

-- of a zone's pointer, where it is looked at
pub record Pointed (z : Zone) : Type 0 where
  pub low : z.start ≤ z.pointer
  pub high : z.pointer ≤ z.start + z.capacity

-- of a zone: no sum or product of its numbers wraps
pub record Bounded (z : Zone) : Type 0 where
  pub held : z.capacity ≤ z.length
  pub end : z.start + z.length ≤ 2 ^ 40
  pub pointer : pointed z ≡ true → Pointed z

-- zones that follow each other from `e` on, each bounded
unfoldable pub AllBounded : ℕ → List Zone → Type 0
AllBounded e [] = Unit
AllBounded e (z ∷ zs) = (z.start ≡ e) × Bounded z × AllBounded (z.start + z.length) zs

-- ---- a fault

unfoldable pub all_passed : List ZoneTest → Bool
all_passed [] = true
all_passed (t ∷ ts) = t.passed && all_passed ts

-- it is the first in the order of the tests: no test before its own fails, and its own does
pub record First (x : ZoneFault) (ts : List ZoneTest) : Type 0 where
  pub before : List ZoneTest
  pub after : List ZoneTest
  pub order : ts ≡ before ++ (test false x ∷ after)
  pub passed : all_passed before ≡ true

-- the numbers of the faults that these tests can find
unfoldable pub fault_numbers : List ZoneTest → List ℕ
fault_numbers [] = []
fault_numbers (t ∷ ts) = fault_code (Some t.fault) ∷ fault_numbers ts
