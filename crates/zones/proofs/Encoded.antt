-- A zone's record, read back.
-- Assumes nothing.
use mathlib.Core.Bool.{Bool, true}
use mathlib.Core.List.{List, [], ◌∷◌, ◌++◌}
use mathlib.Core.Path.{◌≡◌, refl, ap, ◌∙◌}
use Prim.Native.Nat.{ℕ, zero, suc, ◌+◌, ◌/◌, ◌%◌, ◌^◌, ◌<◌}
use native.Mathlib.Nat.{add-zero}
use native.Mathlib.Omega.{arith}
use lib.ListN.{length, get_or, drop}
use lib.Seq.{get_or-drop}
use Rattle.wire.specs.Le.{le, little}
use Rattle.wire.proofs.Laws.{le-little, le-drop}
use Rattle.zones.specs.declared.Zone.{Zone}
use Rattle.zones.specs.Zone.{zone_bytes, zone_at, encode_zone}

-- A RECORD, and bytes l after it

module _ (z : Zone) (l : List ℕ) where
  start_bytes : le 8 (encode_zone z ++ l) 0 ≡ le 8 (little 8 z.start ++ []) 0
  unfolding le little encode_zone
  start_bytes = refl

  length_bytes : le 8 (encode_zone z ++ l) 8 ≡ le 8 (little 8 z.length ++ []) 0
  unfolding le little encode_zone
  length_bytes = refl

  pointer_bytes : le 8 (encode_zone z ++ l) 16 ≡ le 8 (little 8 z.pointer ++ []) 0
  unfolding le little encode_zone
  pointer_bytes = refl

  capacity_bytes : le 8 (encode_zone z ++ l) 32 ≡ le 8 (little 8 z.capacity ++ []) 0
  unfolding le little encode_zone
  capacity_bytes = refl

  type_byte_lem : get_or (encode_zone z ++ l) 24 0 ≡ z.kind
  unfolding little encode_zone
  type_byte_lem = refl

  condition_byte_lem : get_or (encode_zone z ++ l) 25 0 ≡ z.condition
  unfolding little encode_zone
  condition_byte_lem = refl

  pub rest_bytes : drop zone_bytes (encode_zone z ++ l) ≡ l
  unfolding little encode_zone
  rest_bytes = refl

  pub more_bytes : length (encode_zone z ++ l) ≡ zone_bytes + length l
  unfolding little encode_zone
  more_bytes = omega arith

-- a zone read back: each number that its bytes hold
pub record ReadBack (z r : Zone) : Type 0 where
  pub start : z.start < 2 ^ 64 → r.start ≡ z.start
  pub length : z.length < 2 ^ 64 → r.length ≡ z.length
  pub pointer : z.pointer < 2 ^ 64 → r.pointer ≡ z.pointer
  pub kind : r.kind ≡ z.kind
  pub condition : r.condition ≡ z.condition
  pub capacity : z.capacity < 2 ^ 64 → r.capacity ≡ z.capacity

pub read_back : (z : Zone) (l : List ℕ) → ReadBack z (zone_at true (encode_zone z ++ l) 0)
read_back z l =
    record {
      start = λ h. start_bytes z l ∙ le-little 8 z.start [] (omega arith);
      length = λ h. length_bytes z l ∙ le-little 8 z.length [] (omega arith);
      pointer = λ h. pointer_bytes z l ∙ le-little 8 z.pointer [] (omega arith);
      kind = type_byte_lem z l;
      condition = condition_byte_lem z l;
      capacity = λ h. capacity_bytes z l ∙ le-little 8 z.capacity [] (omega arith);
    }

-- A RECORD AT A PLACE

pub zone-drop : (given : Bool) (at : ℕ) (b : List ℕ) → zone_at given b at ≡ zone_at given (drop at b) 0
zone-drop given at b =
    let first : le 8 (drop at b) 0 ≡ le 8 b at = le-drop 8 at b 0 ∙ ap (le 8 b) (add-zero at) in
    rw (first, le-drop 8 at b 8, le-drop 8 at b 16, le-drop 8 at b 32, get_or-drop at b 24 0, get_or-drop at b 25 0)

-- BYTES: all of them are below 256

pub data Bytes : List ℕ → Type 0 where
  nil : Bytes []
  cons : {x : ℕ} {l : List ℕ} → x < 256 → Bytes l → Bytes (x ∷ l)

pub little_bytes : (n v : ℕ) {l : List ℕ} → Bytes l → Bytes (little n v ++ l)
unfolding little
little_bytes zero v h = h
little_bytes (suc n) v h = let x : v % 256 < 256 = omega arith in cons x (little_bytes n (v / 256) h)

pub record_bytes_lem : (z : Zone) {l : List ℕ} → z.kind < 256 → z.condition < 256 → Bytes l → Bytes (encode_zone z ++ l)
unfolding encode_zone little
record_bytes_lem z k c h =
    little_bytes 8 z.start (little_bytes 8 z.length (little_bytes 8 z.pointer
    (cons k (cons c (little_bytes 6 0 (little_bytes 8 z.capacity (little_bytes 24 0 h)))))))

pub byte_at : {l : List ℕ} → Bytes l → (i : ℕ) → get_or l i 0 < 256
byte_at nil i = omega arith
byte_at (cons x h) zero = x
byte_at (cons x h) (suc i) = byte_at h i
