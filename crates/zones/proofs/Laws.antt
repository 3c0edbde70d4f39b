-- What a good zone tells.
-- Assumes nothing.
use mathlib.Core.Path.{◌≡◌, ap}
use mathlib.Core.List.{List, ◌∷◌}
use mathlib.Core.Bool.{Bool, true, false, not, ◌&&◌}
use Prim.Native.Nat.{ℕ, ◌+◌, ◌%◌}
use borrow.Author.Tests.{leb-true, eqb-true}
use lib.Dec.{leb}
use Rattle.types.specs.Blocks.{on_block}
use Rattle.types.proofs.Tests.{both, and_left, and_right, means_out}
use Rattle.zones.specs.declared.Zone.{Zone}
use Rattle.zones.specs.Zone.{starts_at, good_length, good_capacity, good_end, good_type, good_condition, good_pointer, full, says_size, pointed, points_well, good_record, good_zone}
use Rattle.zones.specs.Facts.{Pointed, Bounded, AllBounded}

-- GOOD INPUT

-- what a good record tells, test by test
pub record GoodRecord (unit : ℕ) (z : Zone) : Type 0 where
  pub length : good_length unit z ≡ true
  pub capacity : good_capacity unit z ≡ true
  pub end : good_end z ≡ true
  pub kind : good_type z ≡ true
  pub condition : good_condition z ≡ true
  pub pointer : good_pointer unit z ≡ true

six : (a b c d e f : Bool) → a && b && c && d && e && f ≡ true → (a ≡ true) × (b ≡ true) × (c ≡ true) × (d ≡ true) × (e ≡ true) × (f ≡ true)
six a b c d e f h = search (and_left, and_right) depth 9

pub record_told : (unit : ℕ) (z : Zone) → good_record unit z ≡ true → GoodRecord unit z
unfolding good_record
record_told unit z h =
    let t = six (good_length unit z) (good_capacity unit z) (good_end z) (good_type z) (good_condition z) (good_pointer unit z) h in
    record { length = t.0; capacity = t.1; end = t.2; kind = t.3; condition = t.4; pointer = t.5 }

-- where a pointer that is looked at stands
pub record WellPointed (unit : ℕ) (z : Zone) : Type 0 where
  pub at : Pointed z
  pub whole : z.pointer % unit ≡ 0

pub well_pointed : (unit : ℕ) (z : Zone) → good_pointer unit z ≡ true → pointed z ≡ true → WellPointed unit z
well_pointed unit z good p =
    let w = means_out (pointed z) (points_well unit z) good p in
    let low : leb z.start z.pointer ≡ true = search (and_left, and_right, w) depth 9 in
    let high : leb z.pointer (z.start + z.capacity) ≡ true = search (and_left, and_right, w) depth 9 in
    let whole : on_block unit z.pointer ≡ true = search (and_left, and_right, w) depth 9 in
    record { at = record { low = leb-true _ _ low; high = leb-true _ _ high }; whole = eqb-true _ _ whole }

-- none of its sums wraps
pub record_bounded : (unit : ℕ) (z : Zone) → good_record unit z ≡ true → Bounded z
record_bounded unit z h =
    let t = record_told unit z h in
    let inside : leb z.capacity z.length ≡ true = search (and_left, and_right, t.capacity) depth 9 in
    record {
      held = leb-true _ _ inside;
      end = leb-true _ _ t.end;
      pointer = λ p. (well_pointed unit z t.pointer p).at;
    }

-- a zone that says its size and isn't full says it by its pointer
pub by_pointer : (z : Zone) → Bounded z → says_size z ≡ true → full z ≡ false → Pointed z
by_pointer z w s e = w.pointer (both s (ap not e))

pub zone-told : (unit e : ℕ) (z : Zone) → good_zone unit e z ≡ true → (z.start ≡ e) × (good_record unit z ≡ true)
unfolding good_zone
zone-told unit e z h =
    let start : starts_at e z ≡ true = and_left (starts_at e z) (good_record unit z) h in
    (eqb-true _ _ start, and_right (starts_at e z) (good_record unit z) h)

pub zone_bounded : (unit e : ℕ) (z : Zone) → good_zone unit e z ≡ true → Bounded z
zone_bounded unit e z h = record_bounded unit z (zone-told unit e z h).1

pub bounded_next : (e : ℕ) (z : Zone) (zs l : List Zone) → l ≡ z ∷ zs → AllBounded e l → (z.start ≡ e) × Bounded z × AllBounded (z.start + z.length) zs
unfolding AllBounded
bounded_next e z zs l q h = rw q at h
