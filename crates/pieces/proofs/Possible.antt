-- What is asked of a value that is held between pieces is exactly what the bytes of a report keep.
-- Assumes nothing.
use Prim.Native.Nat.{◌^◌, ◌≤◌}
use native.Mathlib.Omega.{arith}
use mathlib.Core.Path.{◌≡◌}
use mathlib.Core.Bool.{Bool, true, ◌&&◌}
use borrow.Author.Tests.{leb-true, le-leb, ltb-true, lt-ltb}
use lib.Dec.{leb, ltb}
use Rattle.types.specs.Blocks.{good_block, most_zones}
use Rattle.types.proofs.Tests.{and_left, and_right, both}
use Rattle.pieces.specs.declared.Pieces.{Pieces}
use Rattle.receiving.specs.Bytes.{unit_bytes}
use Rattle.receiving.specs.Facts.{BoundedReceived}
use Rattle.pieces.specs.Pieces.{possible_pieces}

-- A VALUE THAT CAN BE HELD

abbrev tests : Bool → Bool → Bool → Bool → Bool → Bool → Bool → Bool → Bool → Bool
tests a b c d e f g h i = a && ((b && c && d && e && f && g && h) && i)

told : (a b c d e f g h i : Bool) → tests a b c d e f g h i ≡ true
    → (a ≡ true) × (b ≡ true) × (c ≡ true) × (d ≡ true) × (e ≡ true) × (f ≡ true) × (g ≡ true) × (h ≡ true) × (i ≡ true)
told a b c d e f g h i all = search (and_left, and_right) depth 12

given : {a b c d e f g h i : Bool} → a ≡ true → b ≡ true → c ≡ true → d ≡ true → e ≡ true → f ≡ true → g ≡ true → h ≡ true → i ≡ true → tests a b c d e f g h i ≡ true
given pa pb pc pd pe pf pg ph pi = both pa (both (both (both (both (both (both (both pb pc) pd) pe) pf) pg) ph) pi)

module _ (p : Pieces) where
  pub possible-told : possible_pieces p ≡ true → (good_block p.mount.volume.block ≡ true) × BoundedReceived p.received
  unfolding possible_pieces
  possible-told h =
      let x = p.received in
      let i = x.intake in
      let w = i.walk in
      let t =
      told (good_block p.mount.volume.block) (leb i.count most_zones) (leb w.number i.count) (leb w.expected (2 ^ 40))
      (leb w.run.capacity w.expected) (leb w.cnvs w.number) (leb w.seqs w.number) (leb i.active w.seqs) (ltb x.held (unit_bytes i)) h in
      let few : i.count ≤ most_zones = leb-true _ _ t.1 in
      let inside : w.number ≤ i.count = leb-true _ _ t.2 in (
        t.0,
        record {
          intake = record {
            walk = record {
              number = omega arith;
              expected = leb-true _ _ t.3;
              run = leb-true _ _ t.4;
              cnvs = leb-true _ _ t.5;
              seqs = leb-true _ _ t.6;
            };
            count = few;
            number = inside;
            active = leb-true _ _ t.7;
          };
          held = ltb-true _ _ t.8;
        },
      )

  pub possible_given : good_block p.mount.volume.block ≡ true → BoundedReceived p.received → possible_pieces p ≡ true
  unfolding possible_pieces
  possible_given good b =
      let i = b.intake in
      let w = i.walk in
      given good (le-leb _ _ i.count) (le-leb _ _ i.number) (le-leb _ _ w.expected) (le-leb _ _ w.run) (le-leb _ _ w.cnvs) (le-leb _ _ w.seqs)
      (le-leb _ _ i.active) (lt-ltb _ _ b.held)
