-- A zone whose record is good input keeps good records, whatever the disk does to it.
-- Assumes nothing.
use mathlib.Core.Bool.{Bool, true, false, not, cond, or-not_self, ◌&&◌, ◌||◌}
use mathlib.Core.Path.{◌≡◌, refl, sym, ap, ◌∙◌, subst}
use Prim.Native.Nat.{ℕ, ◌+◌, ◌/◌, ◌%◌, ◌^◌, ◌≤◌, ◌<◌}
use native.Mathlib.Omega.{arith}
use lib.Dec.{leb, ltb, eqb}
use borrow.Author.Tests.{leb-true, ltb-true, eqb-true, eqb-false, le-leb, lt-ltb, eq-eqb, not-true}
use Rattle.types.specs.declared.FileKind.{FileKind}
use Rattle.types.specs.declared.FileKind.TheVariants.{Conventional, Sequential}
use Rattle.types.specs.declared.Condition.{Condition}
use Rattle.types.specs.declared.Condition.TheVariants.{Healthy, ReadOnly, Offline}
use Rattle.types.specs.Kinds.{of_kind}
use Rattle.types.specs.Predicates.{is_conventional, is_healthy}
use Rattle.types.proofs.Tests.{both, and_left, and_right, cases, means_in, means_out}
use Rattle.types.proofs.Blocks.{IsBlock}
use Rattle.types.proofs.PredicateLaws.{conventional-is}
use Rattle.zones.specs.declared.Zone.{Zone}
use Rattle.zones.specs.Zone.{conventional, sequential, healthy, condition_of, full, conventional_condition, sequential_condition, says_size, pointed, points_well, good_pointer, good_record}
use Rattle.zones.proofs.Laws.{GoodRecord, record_told, well_pointed}
use Rattle.disk.specs.Disk.{DiskZone, is_full, Mishap, moved, struck, reported, type_byte, healthy_byte, condition_byte}
use Rattle.disk.specs.Shows.{shows_kind, shows_healthy, shows_condition}
use Rattle.disk.specs.Facts.{ShowsZone}
use Rattle.disk.proofs.Whole.{At, at_end, at_fall}
use Rattle.disk.proofs.Conditions.{healthy-is, sequential-is, healthy_before}

-- what good input says of a zone
pub record SoundZone (b : ℕ) (z : DiskZone) : Type 0 where
  pub base : z.start % (b / 512) ≡ 0
  pub long : 0 < z.length
  pub spans : z.length % (b / 512) ≡ 0
  pub some : 0 < z.capacity
  pub whole : z.capacity % (b / 512) ≡ 0
  pub within : z.capacity ≤ z.length
  pub ends : z.start + z.length ≤ 2 ^ 40
  pub flat : z.kind ≡ Conventional → z.capacity ≡ z.length
  pub point : z.kind ≡ Sequential → z.condition ≡ Healthy → At b z z.pointer

-- ---- WHAT A RECORD SAYS of the zone that it shows

-- the byte of a healthy sequential zone
data Byte (full : Bool) : ℕ → Type 0 where
  one : Byte full 1
  two : Byte full 2
  three : Byte full 3
  four : Byte full 4
  end : full ≡ true → Byte full 14

byte_of : (n : ℕ) (full : Bool) → leb 1 n && leb n 4 || eqb n 14 && full ≡ true → Byte full n
byte_of n full e = by (leb 1 n && leb n 4) refl e
  where
    is : (m : ℕ) → n ≡ m → Byte full m → Byte full n
    is m q h = subst (Byte full) (sym q) h

    low : 1 ≤ n → n ≤ 4 → (a b c : Bool) → eqb n 1 ≡ a → eqb n 2 ≡ b → eqb n 3 ≡ c → Byte full n
    low x y true b c e f g = is 1 (eqb-true n 1 e) one
    low x y false true c e f g = is 2 (eqb-true n 2 f) two
    low x y false false true e f g = is 3 (eqb-true n 3 g) three
    low x y false false false e f g = is 4 (omega (arith, eqb-false n 1 e, eqb-false n 2 f, eqb-false n 3 g)) four

    by : (s : Bool) → leb 1 n && leb n 4 ≡ s → s || eqb n 14 && full ≡ true → Byte full n
    by true f e = low (leb-true 1 n (and_left _ _ f)) (leb-true n 4 (and_right (leb 1 n) _ f)) (eqb n 1) (eqb n 2) (eqb n 3) refl refl refl
    by false f e = is 14 (eqb-true n 14 (and_left _ _ e)) (end (and_right (eqb n 14) full e))

-- its kind
number_kind : (n : ℕ) (k : FileKind) → of_kind k (eqb n 1) (eqb n 2 || eqb n 3) ≡ true → (eqb n 1 ≡ is_conventional k) × (eqb n 2 || eqb n 3 ≡ not (is_conventional k))
number_kind n Conventional e = let q = eqb-true n 1 e in (e, rw q)
number_kind n Sequential e = (by (eqb n 2) refl e, e)
  where
    by : (t : Bool) → eqb n 2 ≡ t → t || eqb n 3 ≡ true → eqb n 1 ≡ false
    by true f e = let q = eqb-true n 2 f in rw q
    by false f e = let q = eqb-true n 3 e in rw q

shown_kind : (k : FileKind) (r : Zone) → shows_kind k r ≡ true → of_kind k (eqb r.kind 1) (eqb r.kind 2 || eqb r.kind 3) ≡ true
shown_kind Conventional r e = e
shown_kind Sequential r e = e

-- its condition, and that the byte is one of its kind
abbrev condition_from : ℕ → Condition
condition_from n = cond (eqb n 13) ReadOnly (cond (eqb n 15) Offline Healthy)

condition_healthy : (k : FileKind) (z : DiskZone) (n : ℕ) → shows_healthy k z n ≡ true → (condition_from n ≡ Healthy) × (cond (is_conventional k) (conventional_condition n) (sequential_condition n) ≡ true)
condition_healthy Conventional z n e = let q = eqb-true n 0 e in (rw q, rw q)
condition_healthy Sequential z n e = by (byte_of n (is_full z) e)
  where
    by : {full : Bool} {n : ℕ} → Byte full n → (condition_from n ≡ Healthy) × (sequential_condition n ≡ true)
    by one = (refl, refl)
    by two = (refl, refl)
    by three = (refl, refl)
    by four = (refl, refl)
    by (end f) = (refl, refl)

unhealthy_byte : (k : FileKind) → (cond (is_conventional k) (conventional_condition 13) (sequential_condition 13) ≡ true) × (cond (is_conventional k) (conventional_condition 15) (sequential_condition 15) ≡ true)
unhealthy_byte Conventional = (refl, refl)
unhealthy_byte Sequential = (refl, refl)

condition_by : (k : FileKind) (c : Condition) (z : DiskZone) (n : ℕ) → z.kind ≡ k → shows_condition c z n ≡ true
    → (condition_from n ≡ c) × (cond (is_conventional k) (conventional_condition n) (sequential_condition n) ≡ true)
condition_by k Healthy z n q e = condition_healthy k z n (subst (λ x. shows_healthy x z n ≡ true) q e)
condition_by k ReadOnly z n q e = let d = eqb-true n 13 e in (rw d, rw d (unhealthy_byte k).0)
condition_by k Offline z n q e = let d = eqb-true n 15 e in (rw d, rw d (unhealthy_byte k).1)

-- the end of a full zone
full_by : (k : FileKind) (z : DiskZone) (n : ℕ) → k ≡ Sequential → shows_healthy k z n ≡ true → not (eqb n 14) || is_full z ≡ true
full_by Conventional z n q e = let x : ◌≡◌ {A = ℕ} 0 1 = cc in absurd (omega arith)
full_by Sequential z n q e = by (byte_of n (is_full z) e)
  where
    by : {full : Bool} {n : ℕ} → Byte full n → not (eqb n 14) || full ≡ true
    by one = refl
    by two = refl
    by three = refl
    by four = refl
    by (end f) = f

module _ {r : Zone} {z : DiskZone} (w : ShowsZone r z) where
  pub says_conventional : conventional r ≡ is_conventional z.kind
  says_conventional = (number_kind r.kind z.kind (shown_kind z.kind r w.kind)).0

  pub says_sequential : sequential r ≡ not (is_conventional z.kind)
  says_sequential = (number_kind r.kind z.kind (shown_kind z.kind r w.kind)).1

  pub says_condition : condition_of r ≡ z.condition
  says_condition = (condition_by z.kind z.condition z r.condition refl w.condition).0

  pub says_healthy : healthy r ≡ is_healthy z.condition
  says_healthy = ap is_healthy says_condition

  says_good : cond (is_conventional z.kind) (conventional_condition r.condition) (sequential_condition r.condition) ≡ true
  says_good = (condition_by z.kind z.condition z r.condition refl w.condition).1

  -- a record says that its zone is full only where the pointer stands at the end
  pub says_full : z.kind ≡ Sequential → z.condition ≡ Healthy → full r ≡ true → z.pointer ≡ z.start + z.capacity
  says_full k c f =
      let e : shows_condition Healthy z r.condition ≡ true = subst (λ x. shows_condition x z r.condition ≡ true) c w.condition in
      eqb-true _ _ (means_out (full r) (is_full z) (full_by z.kind z r.condition k e) f)

-- ---- GOOD INPUT

-- from its tests to the whole
good_made : {unit : ℕ} {r : Zone} → GoodRecord unit r → good_record unit r ≡ true
unfolding good_record
good_made t = both (both (both (both (both t.length t.capacity) t.end) t.kind) t.condition) t.pointer

-- a zone that is good input shows good records
pub record_good : {b : ℕ} {r : Zone} {z : DiskZone} → ShowsZone r z → SoundZone b z → good_record (b / 512) r ≡ true
record_good {b} {r} {z} w s = good_made (record {
  length = both (lt-ltb 0 r.length (omega (arith, w.length, s.long))) (eq-eqb _ _ (ap (λ n. n % (b / 512)) w.length ∙ s.spans));
  capacity = both
      (both (both (lt-ltb 0 r.capacity (omega (arith, w.capacity, s.some))) (eq-eqb _ _ (ap (λ n. n % (b / 512)) w.capacity ∙ s.whole)))
      (le-leb r.capacity r.length (omega (arith, w.capacity, w.length, s.within))))
      (means_in (conventional r) _ flat);
  end = le-leb (r.start + r.length) (2 ^ 40) (omega (arith, w.start, w.length, s.ends));
  kind = rw (says_conventional w, says_sequential w) (or-not_self (is_conventional z.kind));
  condition = rw (says_conventional w) (says_good w);
  pointer = means_in (pointed r) _ points;
})
  where
    flat : conventional r ≡ true → eqb r.capacity r.length ≡ true
    flat e = let q = s.flat (conventional-is z.kind (sym (says_conventional w) ∙ e)) in eq-eqb r.capacity r.length (omega (arith, w.capacity, w.length, q))

    points : pointed r ≡ true → points_well (b / 512) r ≡ true
    points e =
        let h = and_left (says_size r) _ e in
        let k : z.kind ≡ Sequential = sequential-is z.kind (sym (says_sequential w) ∙ and_left (sequential r) _ h) in
        let c : z.condition ≡ Healthy = healthy-is z.condition (sym (says_healthy w) ∙ and_right (sequential r) _ h) in
        let p = w.pointer k c (not-true (full r) (and_right (says_size r) _ e)) in
        let at = s.point k c in
        both (both (le-leb r.start r.pointer (omega (arith, p, w.start, at.low))) (le-leb r.pointer (r.start + r.capacity) (omega (arith, p, w.start, w.capacity, at.high))))
        (eq-eqb _ _ (ap (λ n. n % (b / 512)) p ∙ at.whole))

-- and a zone that shows a good record is good input
pub sound_of : {b : ℕ} {r : Zone} {z : DiskZone} → IsBlock b → ShowsZone r z → good_record (b / 512) r ≡ true → z.start % (b / 512) ≡ 0 → SoundZone b z
sound_of {b} {r} {z} block w g base =
    let t = record_told (b / 512) r g in
    let long : ltb 0 r.length ≡ true = and_left _ _ t.length in
    let spans : eqb (r.length % (b / 512)) 0 ≡ true = search (and_left, and_right, t.length) depth 9 in
    let some : ltb 0 r.capacity ≡ true = search (and_left, and_right, t.capacity) depth 9 in
    let whole : eqb (r.capacity % (b / 512)) 0 ≡ true = search (and_left, and_right, t.capacity) depth 9 in
    let within : leb r.capacity r.length ≡ true = search (and_left, and_right, t.capacity) depth 9 in
    let flat : not (conventional r) || eqb r.capacity r.length ≡ true = search (and_left, and_right, t.capacity) depth 9 in
    record {
      base = base;
      long = omega (arith, w.length, ltb-true 0 r.length long);
      spans = ap (λ n. n % (b / 512)) (sym w.length) ∙ eqb-true _ _ spans;
      some = omega (arith, w.capacity, ltb-true 0 r.capacity some);
      whole = roomy whole;
      within = omega (arith, w.length, w.capacity, leb-true r.capacity r.length within);
      ends = omega (arith, w.start, w.length, leb-true (r.start + r.length) (2 ^ 40) t.end);
      flat = λ k.
          let c : conventional r ≡ true = says_conventional w ∙ ap is_conventional k in
          let e : eqb r.capacity r.length ≡ true = rw c at flat in
          sym w.capacity ∙ eqb-true _ _ e ∙ w.length;
      point = λ k c.
          cases (full r) (λ f. subst (At b z) (sym (says_full w k c f)) (at_end block z base (roomy whole))) (pointed_at t.pointer k c);
    }
  where
    roomy : eqb (r.capacity % (b / 512)) 0 ≡ true → z.capacity % (b / 512) ≡ 0
    roomy e = ap (λ n. n % (b / 512)) (sym w.capacity) ∙ eqb-true _ _ e

    -- where the record isn't that of a full zone, the pointer is its pointer
    pointed_at : good_pointer (b / 512) r ≡ true → z.kind ≡ Sequential → z.condition ≡ Healthy → full r ≡ false → At b z z.pointer
    pointed_at good k c f =
        let p = w.pointer k c f in
        let q : sequential r ≡ true = says_sequential w ∙ ap (λ x. not (is_conventional x)) k in
        let h : healthy r ≡ true = says_healthy w ∙ ap is_healthy c in
        let well = well_pointed (b / 512) r good (both (both q h) (ap not f)) in
        record {
          low = omega (arith, p, w.start, well.at.low);
          high = omega (arith, p, w.start, w.capacity, well.at.high);
          whole = ap (λ n. n % (b / 512)) (sym p) ∙ well.whole;
        }

-- ---- THE DISK'S OWN RECORD shows the zone.
pub kind_shown : (k : FileKind) (r : Zone) → r.kind ≡ type_byte k → shows_kind k r ≡ true
kind_shown Conventional r e = eq-eqb _ _ e
kind_shown Sequential r e = rw e

reported-healthy : (k : FileKind) (z : DiskZone) → shows_healthy k z (healthy_byte k z) ≡ true
reported-healthy Conventional z = refl
reported-healthy Sequential z = by (eqb z.pointer z.start) (is_full z)
  where
    by : (s t : Bool) → leb 1 (cond s 1 (cond t 14 2)) && leb (cond s 1 (cond t 14 2)) 4 || eqb (cond s 1 (cond t 14 2)) 14 && t ≡ true
    by true t = refl
    by false true = refl
    by false false = refl

pub reported_condition : (c : Condition) (z : DiskZone) → shows_condition c z (condition_byte c z) ≡ true
reported_condition Healthy z = reported-healthy z.kind z
reported_condition ReadOnly z = refl
reported_condition Offline z = refl

pub reported-shows : (z : DiskZone) → ShowsZone (reported z) z
unfolding reported
reported-shows z = record {
  kind = kind_shown z.kind (reported z) refl;
  start = refl;
  length = refl;
  capacity = refl;
  pointer = λ k c f. refl;
  condition = reported_condition z.condition z;
}

-- ---- WHAT THE DISK DOES to a zone leaves it good input.
pub sound_moved : {b : ℕ} (z : DiskZone) → SoundZone b z → (p : ℕ) (c : Condition) → (z.kind ≡ Sequential → c ≡ Healthy → At b z p) → SoundZone b (moved z p c)
unfolding moved
sound_moved z s p c a = record {
  base = s.base;
  long = s.long;
  spans = s.spans;
  some = s.some;
  whole = s.whole;
  within = s.within;
  ends = s.ends;
  flat = s.flat;
  point = λ k e. let at = a k e in record { low = at.low; high = at.high; whole = at.whole };
}

pub sound_struck : {b : ℕ} → IsBlock b → (z : DiskZone) → SoundZone b z → (p : ℕ) (e : Mishap) → (z.kind ≡ Sequential → z.condition ≡ Healthy → At b z p) → SoundZone b (struck b z p e)
unfolding struck
sound_struck block z s p e a = sound_moved z s _ _ (λ k f. at_fall block z p e.blocks s.base (a k (healthy_before z.condition e.harm f)))
