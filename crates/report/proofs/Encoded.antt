-- A report's bytes, read back.
-- Assumes nothing.
use mathlib.Core.Path.{◌≡◌, refl, sym, ap, ◌∙◌, subst}
use mathlib.Core.List.{List, [], ◌∷◌, ◌++◌}
use mathlib.Core.Bool.{true}
use Prim.Native.Nat.{ℕ, ◌+◌, ◌*◌, ◌≤◌, ◌<◌}
use native.Mathlib.Omega.{arith}
use borrow.Author.Tests.{le-leb, eq-eqb}
use lib.ListN.{length, get_or, drop}
use lib.Seq.{drop-drop}
use Rattle.types.specs.Blocks.{most_zones}
use Rattle.types.proofs.Tests.{both}
use Rattle.wire.specs.Le.{le, little}
use Rattle.wire.proofs.Laws.{le-little}
use Rattle.zones.specs.declared.Zone.{Zone}
use Rattle.zones.specs.Zone.{zone_bytes, zone_at, encode_zone}
use Rattle.zones.proofs.Encoded.{Bytes, nil, little_bytes, record_bytes_lem, byte_at, ReadBack, read_back, rest_bytes, more_bytes, zone-drop}
use Rattle.report.specs.Report.{header_bytes, zone_count, capacity_given, good_header, report_zone, zones_from, zones_of, encode_zones, encode_report}

-- THE HEADER

zones_bytes : (zs : List Zone) → length (encode_zones zs) ≡ zone_bytes * length zs
unfolding encode_zones
zones_bytes [] = refl
zones_bytes (z ∷ zs) = more_bytes z (encode_zones zs) ∙ omega (arith, zones_bytes zs)

module _ (zs : List Zone) where
  sector_bytes_lem : le 8 (encode_report zs) 0 ≡ 0
  unfolding le little encode_report
  sector_bytes_lem = refl

  flag_bytes : le 4 (encode_report zs) 12 ≡ 1
  unfolding le little encode_report
  flag_bytes = refl

  count_bytes : le 4 (encode_report zs) 8 ≡ le 4 (little 4 (length zs) ++ []) 0
  unfolding le little encode_report
  count_bytes = refl

  records_bytes : drop header_bytes (encode_report zs) ≡ encode_zones zs
  unfolding little encode_report
  records_bytes = refl

  report_length_lem : length (encode_report zs) ≡ header_bytes + zone_bytes * length zs
  unfolding little encode_report
  report_length_lem = omega (arith, zones_bytes zs)

  module _ (few : length zs ≤ most_zones) where
    pub encoded_count : zone_count (encode_report zs) ≡ length zs
    encoded_count = count_bytes ∙ le-little 4 (length zs) [] (omega (arith, few))

    pub encoded_header : 1 ≤ length zs → good_header (encode_report zs) ≡ true
    unfolding good_header
    encoded_header some =
        let b = encode_report zs in
        let long : length b ≡ header_bytes + zone_bytes * zone_count b = omega (arith, report_length_lem, encoded_count) in
        both (le-leb header_bytes (length b) (omega (arith, long)))
        (both (both (both (both (eq-eqb _ _ sector_bytes_lem) (le-leb 1 (zone_count b) (omega (arith, encoded_count))))
        (le-leb (zone_count b) most_zones (omega (arith, encoded_count)))) (le-leb (le 4 b 12) 1 (omega (arith, flag_bytes))))
        (eq-eqb (length b) (header_bytes + zone_bytes * zone_count b) long))

-- THE ZONES

-- the zones that are read back are those, one by one
pub data AllReadBack : List Zone → List Zone → Type 0 where
  none : AllReadBack [] []
  next : {z r : Zone} {zs rs : List Zone} → ReadBack z r → AllReadBack zs rs → AllReadBack (z ∷ zs) (r ∷ rs)

zones_back : (zs : List Zone) (b : List ℕ) (i : ℕ) → capacity_given b ≡ true → drop (header_bytes + zone_bytes * i) b ≡ encode_zones zs → AllReadBack zs (zones_from (length zs) b i)
unfolding zones_from encode_zones
zones_back [] b i g e = none
zones_back (z ∷ zs) b i g e =
    let at = header_bytes + zone_bytes * i in
    let rest = encode_zones zs in
    let here : report_zone b i ≡ zone_at true (encode_zone z ++ rest) 0 = ap (λ t. zone_at t b at) g ∙ zone-drop true at b ∙ ap (λ l. zone_at true l 0) e in
    let after : header_bytes + zone_bytes * (i + 1) ≡ at + zone_bytes = omega arith in
    let there : drop (header_bytes + zone_bytes * (i + 1)) b ≡ rest = ap (λ n. drop n b) after ∙ sym (drop-drop zone_bytes at b) ∙ ap (drop zone_bytes) e ∙ rest_bytes z rest in
    next (subst (ReadBack z) (sym here) (read_back z rest)) (zones_back zs b (i + 1) g there)

pub encoded_zones : (zs : List Zone) → length zs ≤ most_zones → AllReadBack zs (zones_of (encode_report zs))
unfolding zones_of
encoded_zones zs few =
    rw (encoded_count zs few) (zones_back zs (encode_report zs) 0 (eq-eqb _ _ (flag_bytes zs)) (records_bytes zs))

-- BYTES

-- of zones whose type and condition are bytes
pub data ByteKinds : List Zone → Type 0 where
  none : ByteKinds []
  next : {z : Zone} {zs : List Zone} → z.kind < 256 → z.condition < 256 → ByteKinds zs → ByteKinds (z ∷ zs)

zones_are_bytes : {zs : List Zone} → ByteKinds zs → Bytes (encode_zones zs)
unfolding encode_zones
zones_are_bytes none = nil
zones_are_bytes (next {z = z} k c h) = record_bytes_lem z k c (zones_are_bytes h)

pub encoded_bytes : {zs : List Zone} → ByteKinds zs → (i : ℕ) → get_or (encode_report zs) i 0 < 256
unfolding encode_report
encoded_bytes {zs} h i = byte_at (little_bytes 8 0 (little_bytes 4 (length zs) (little_bytes 4 1 (zones_are_bytes h)))) i
