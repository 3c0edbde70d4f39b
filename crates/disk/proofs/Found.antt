-- Zones that are good input are shown by a disk: the one that has what they say.
-- Assumes nothing.
use mathlib.Core.Bool.{Bool, true, false, cond, ◌&&◌, ◌||◌}
use mathlib.Core.List.{List, [], ◌∷◌, map}
use mathlib.Core.Path.{◌≡◌, refl}
use Prim.Native.Nat.{ℕ, ◌+◌}
use lib.Dec.{leb, eqb}
use borrow.Author.Tests.{eq-eqb}
use Rattle.types.specs.declared.FileKind.{FileKind}
use Rattle.types.specs.declared.FileKind.TheVariants.{Conventional, Sequential}
use Rattle.types.specs.declared.Condition.TheVariants.{Healthy, ReadOnly, Offline}
use Rattle.zones.specs.declared.Zone.{Zone}
use Rattle.zones.specs.Zone.{conventional, sequential, condition_of, full, conventional_condition, sequential_condition}
use Rattle.zones.proofs.Laws.{GoodRecord, record_told, zone-told}
use Rattle.report.proofs.Laws.{AllGood}
use Rattle.disk.specs.Disk.{DiskZone, is_full}
use Rattle.disk.specs.Shows.{shows_kind, shows_healthy, shows_condition}
use Rattle.disk.specs.Facts.{ShowsZone, ShowsZones, none, next}

abbrev kind_of : Bool → FileKind
kind_of t = cond t Conventional Sequential

-- a full zone's pointer stands at its end, whatever it reports
pub zone_found : Zone → DiskZone
zone_found r = record {
  kind = kind_of (conventional r);
  start = r.start;
  length = r.length;
  capacity = r.capacity;
  pointer = cond (full r) (r.start + r.capacity) r.pointer;
  condition = condition_of r;
}

kind_found : (r : Zone) (t : Bool) → conventional r ≡ t → t || sequential r ≡ true → shows_kind (kind_of t) r ≡ true
kind_found r true e g = e
kind_found r false e g = g

-- the tests of a healthy sequential zone's byte: 1 to 4; 14; at the end
healthy_found : (low ends end : Bool) → low || false || ends || false ≡ true → (ends ≡ true → end ≡ true) → low || ends && end ≡ true
healthy_found true ends end g p = refl
healthy_found false true end g p = p refl
healthy_found false false end g p = g

end_found : (r : Zone) → full r ≡ true → is_full (zone_found r) ≡ true
unfolding zone_found
end_found r f = eq-eqb (zone_found r).pointer (r.start + r.capacity) (rw f)

module _ (unit : ℕ) (r : Zone) (g : GoodRecord unit r) where
  -- the byte of a zone that is neither read-only nor offline
  unharmed_found : (t : Bool) → conventional r ≡ t → eqb r.condition 13 ≡ false → eqb r.condition 15 ≡ false
      → (z : DiskZone) → (full r ≡ true → is_full z ≡ true) → shows_healthy (kind_of t) z r.condition ≡ true
  unharmed_found true e a b z p =
      let c : conventional_condition r.condition ≡ true = rw e at g.condition in
      let d : eqb r.condition 0 || false || false ≡ true = rw (a, b) at c in
      by (eqb r.condition 0) d
    where
      by : (s : Bool) → s || false || false ≡ true → s ≡ true
      by true h = refl
      by false h = h
  unharmed_found false e a b z p =
      let c : sequential_condition r.condition ≡ true = rw e at g.condition in
      let d : leb 1 r.condition && leb r.condition 4 || false || full r || false ≡ true = rw (a, b) at c in
      healthy_found (leb 1 r.condition && leb r.condition 4) (full r) (is_full z) d p

  condition_found : (a b : Bool) → eqb r.condition 13 ≡ a → eqb r.condition 15 ≡ b → shows_condition (cond a ReadOnly (cond b Offline Healthy)) (zone_found r) r.condition ≡ true
  unfolding zone_found
  condition_found true b e f = e
  condition_found false true e f = f
  condition_found false false e f = unharmed_found (conventional r) refl e f (zone_found r) (end_found r)

  pub zone_found_lem : ShowsZone r (zone_found r)
  unfolding zone_found
  zone_found_lem = record {
    kind = kind_found r (conventional r) refl g.kind;
    start = refl;
    length = refl;
    capacity = refl;
    pointer = λ k c f. rw f;
    condition = condition_found (eqb r.condition 13) (eqb r.condition 15) refl refl;
  }

pub zones_found : (unit at : ℕ) (rs : List Zone) → AllGood unit at rs → ShowsZones rs (map zone_found rs)
unfolding AllGood
zones_found unit at [] g = none
zones_found unit at (r ∷ rs) (g, gs) = next (zone_found_lem unit r (record_told unit r (zone-told unit at r g).1)) (zones_found unit (r.start + r.length) rs gs)
