-- The disk's zones, their histories and the rows of the seq files, walked together; and the zones of a conventional row.
-- Assumes nothing.
use mathlib.Core.Bool.{true, false, not}
use mathlib.Core.List.{List, [], ◌∷◌, map}
use mathlib.Core.Path.{◌≡◌, refl, sym, ap, ◌∙◌}
use Prim.Native.Nat.{ℕ, zero, suc, ◌+◌, ◌*◌, ◌≤◌, ◌<◌}
use native.Mathlib.Omega.{arith}
use lib.ListN.{get_or, set}
use lib.Seq.{map-set_same}
use borrow.Author.Tests.{le-ltb, lt-ltb}
use Rattle.types.specs.declared.Row.{Row}
use Rattle.types.specs.declared.Outstanding.{Outstanding}
use Rattle.table.specs.Rows.{with_outstanding, with_opens}
use Rattle.types.specs.declared.FileKind.{FileKind}
use Rattle.types.specs.declared.FileKind.TheVariants.{Conventional, Sequential}
use Rattle.types.specs.declared.Condition.{Condition}
use Rattle.types.specs.declared.ErrorPolicy.{ErrorPolicy}
use Rattle.types.proofs.Tests.{both}
use Rattle.types.specs.Predicates.{is_conventional}
use Rattle.disk.specs.Disk.{DiskZone, moved, no_zone, zone_holding}
use Rattle.consistency.specs.FileHistory.{FileHistory}
use Rattle.consistency.specs.System.{no_history, holds_seq_file}
use Rattle.disk.proofs.SoundZone.{SoundZone, sound_moved}
use Rattle.disk.proofs.Reported.{AllSound}
use Rattle.consistency.proofs.Agrees.{Agrees, agrees_beside}
use Rattle.consistency.proofs.Bridge.{no_row}

-- From a sector on: each zone starts where the last ended, and the rows are those of the files, in order, each in agreement with its
-- zone. The last number counts the files; rows past them are free.
pub data Files (b : ℕ) (p : ErrorPolicy) : ℕ → List DiskZone → List FileHistory → List Row → ℕ → Type 0 where
  none : {at : ℕ} {rs : List Row} → Files b p at [] [] rs 0
  other : {at : ℕ} {z : DiskZone} {s : FileHistory} {zs : List DiskZone} {ss : List FileHistory} {rs : List Row} {k : ℕ}
      → z.start ≡ at → holds_seq_file z ≡ false → SoundZone b z → Files b p (at + z.length) zs ss rs k → Files b p at (z ∷ zs) (s ∷ ss) rs k
  file : {at : ℕ} {z : DiskZone} {s : FileHistory} {r : Row} {zs : List DiskZone} {ss : List FileHistory} {rs : List Row} {k : ℕ}
      → z.start ≡ at → Agrees b p z s r → Files b p (at + z.length) zs ss rs k → Files b p at (z ∷ zs) (s ∷ ss) (r ∷ rs) (suc k)

pub files_sound : {b : ℕ} {p : ErrorPolicy} {at : ℕ} {zs : List DiskZone} {ss : List FileHistory} {rs : List Row} {k : ℕ} → Files b p at zs ss rs k → AllSound b zs
files_sound none = AllSound.none
files_sound (other e f s t) = AllSound.next s (files_sound t)
files_sound (file e a t) = AllSound.next a.sound (files_sound t)

above : {b : ℕ} {p : ErrorPolicy} {at : ℕ} {zs : List DiskZone} {ss : List FileHistory} {rs : List Row} {k : ℕ} → Files b p at zs ss rs k → (n : ℕ) → n < k → at ≤ (get_or rs n no_row).start
above none n h = omega arith
above (other e f g t) n h = let u = above t n h in omega arith
above (file e a t) zero h = omega (arith, a.start)
above (file {k = k} e a t) (suc n) h = let l : n < k = omega arith in let u = above t n l in omega arith

-- Zone i is file n's: what agrees with a zone that starts and ends there can take its place.
pub record Own (b : ℕ) (p : ErrorPolicy) (at : ℕ) (zs : List DiskZone) (ss : List FileHistory) (rs : List Row) (k n i : ℕ) : Type 0 where
  pub agrees : Agrees b p (get_or zs i no_zone) (get_or ss i no_history) (get_or rs n no_row)
  pub put : (z : DiskZone) (s : FileHistory) (r : Row) → z.start ≡ (get_or zs i no_zone).start → z.length ≡ (get_or zs i no_zone).length → Agrees b p z s r → Files b p at (set zs i z) (set ss i s) (set rs n r) k

pub zone_here : (z : DiskZone) (zs : List DiskZone) (x : ℕ) → x < (z.start + z.length) * 512 → zone_holding (z ∷ zs) x ≡ 0
unfolding zone_holding
zone_here z zs x h = rw (lt-ltb x ((z.start + z.length) * 512) h)

pub zone_later : (z : DiskZone) (zs : List DiskZone) (x : ℕ) → (z.start + z.length) * 512 ≤ x → zone_holding (z ∷ zs) x ≡ suc (zone_holding zs x)
unfolding zone_holding
zone_later z zs x h = rw (le-ltb x ((z.start + z.length) * 512) h)

relength : {b : ℕ} {p : ErrorPolicy} (at : ℕ) {n m : ℕ} {zs : List DiskZone} {ss : List FileHistory} {rs : List Row} {k : ℕ} → n ≡ m → Files b p (at + m) zs ss rs k → Files b p (at + n) zs ss rs k
relength at d t = rw d t

-- the zone at an address within a file is the file's
pub own : {b : ℕ} {p : ErrorPolicy} {at : ℕ} {zs : List DiskZone} {ss : List FileHistory} {rs : List Row} {k : ℕ} → Files b p at zs ss rs k → (n x : ℕ) → n < k
    → (get_or rs n no_row).start * 512 ≤ x → x < (get_or rs n no_row).start * 512 + (get_or rs n no_row).capacity → Own b p at zs ss rs k n (zone_holding zs x)
own none n x h low high = absurd (omega arith)
own (other {z = z} {zs = zs} e f g t) n x h low high =
    let u = above t n h in
    let o = own t n x h low high in
    rw (zone_later z zs x (omega arith)) (record { agrees = o.agrees; put = λ z' s' r' c d a. other e f g (o.put z' s' r' c d a) })
own (file {z = z} {zs = zs} e a t) zero x h low high =
    rw (zone_here z zs x (omega (arith, a.start, a.capacity, a.sound.within))) (record { agrees = a; put = λ z' s' r' c d a'. file (c ∙ e) a' (relength _ d t) })
own (file {z = z} {zs = zs} {k = k} e a t) (suc n) x h low high =
    let l : n < k = omega arith in
    let u = above t n l in
    let o = own t n x l low high in
    rw (zone_later z zs x (omega arith)) (record { agrees = o.agrees; put = λ z' s' r' c d a'. file e a (o.put z' s' r' c d a') })

-- A zone that changes without its row: a mishap, or the command of a conventional file.
pub alter : {b : ℕ} {p : ErrorPolicy} {at : ℕ} {zs : List DiskZone} {ss : List FileHistory} {rs : List Row} {k : ℕ} → Files b p at zs ss rs k → (i : ℕ) (z : DiskZone) (s : FileHistory)
    → z.start ≡ (get_or zs i no_zone).start → z.length ≡ (get_or zs i no_zone).length → holds_seq_file z ≡ holds_seq_file (get_or zs i no_zone)
    → (SoundZone b (get_or zs i no_zone) → SoundZone b z) → ((r : Row) → Agrees b p (get_or zs i no_zone) (get_or ss i no_history) r → Agrees b p z s r) → Files b p at (set zs i z) (set ss i s) rs k
alter none i z s c d q v u = none
alter (other e f g t) zero z s c d q v u = other (c ∙ e) (q ∙ f) (v g) (relength _ d t)
alter (other e f g t) (suc i) z s c d q v u = other e f g (alter t i z s c d q v u)
alter (file {r = r} e a t) zero z s c d q v u = file (c ∙ e) (u r a) (relength _ d t)
alter (file e a t) (suc i) z s c d q v u = file e a (alter t i z s c d q v u)

-- A row with other opens, on which something else is outstanding.
pub files_beside : {b : ℕ} {p : ErrorPolicy} {at : ℕ} {zs : List DiskZone} {ss : List FileHistory} {rs : List Row} {k : ℕ} → Files b p at zs ss rs k → (n m : ℕ) (o : Outstanding)
    → Files b p at zs ss (set rs n (with_outstanding (with_opens (get_or rs n no_row) m) o)) k
files_beside none n m o = none
files_beside (other e f g t) n m o = other e f g (files_beside t n m o)
files_beside (file e a t) zero m o = file e (agrees_beside m o a) t
files_beside (file e a t) (suc n) m o = file e a (files_beside t n m o)

pub is_file : {b : ℕ} {p : ErrorPolicy} {z : DiskZone} {s : FileHistory} {r : Row} → Agrees b p z s r → holds_seq_file z ≡ true
is_file {z = z} a = both (ap (λ k. not (is_conventional k)) a.kind) (lt-ltb 0 z.start a.inner)

-- CONVENTIONAL FILES. Every byte of one lies in a conventional zone of its own.
pub record Inside (b : ℕ) (r : Row) (z : DiskZone) : Type 0 where
  pub kind : z.kind ≡ Conventional
  pub sound : SoundZone b z
  pub low : r.start ≤ z.start
  pub high : (z.start + z.length) * 512 ≤ r.start * 512 + r.capacity

pub record Covers (b : ℕ) (zs : List DiskZone) (r : Row) : Type 0 where
  pub at : (x : ℕ) → r.start * 512 ≤ x → x < r.start * 512 + r.capacity → Inside b r (get_or zs (zone_holding zs x) no_zone)

pub kinds_differ : Conventional ≡ Sequential → ⊥
kinds_differ e = let x : ◌≡◌ {A = ℕ} 0 1 = cc in omega arith

pub inside_moved : {b : ℕ} {r : Row} {z : DiskZone} → Inside b r z → (p : ℕ) (c : Condition) → Inside b r (moved z p c)
unfolding moved
inside_moved {z = z} i p c = record { kind = i.kind; sound = sound_moved z i.sound p c (λ k. absurd (kinds_differ (sym i.kind ∙ k))); low = i.low; high = i.high }

pub set_keeps : {A : Type 0} (P : A → Type 0) (d : A) (l : List A) (i j : ℕ) (a : A) → (P (get_or l i d) → P a) → P (get_or l j d) → P (get_or (set l i a) j d)
set_keeps P d [] i j a f p = p
set_keeps P d (x ∷ l) zero zero a f p = f p
set_keeps P d (x ∷ l) zero (suc j) a f p = p
set_keeps P d (x ∷ l) (suc i) zero a f p = p
set_keeps P d (x ∷ l) (suc i) (suc j) a f p = set_keeps P d l i j a f p

zone_at-set : (zs : List DiskZone) (i x p : ℕ) (c : Condition) → zone_holding (set zs i (moved (get_or zs i no_zone) p c)) x ≡ zone_holding zs x
unfolding zone_holding moved
zone_at-set [] i x p c = refl
zone_at-set (z ∷ zs) zero x p c = refl
zone_at-set (z ∷ zs) (suc i) x p c = rw (zone_at-set zs i x p c)

pub covers_set : {b : ℕ} {r : Row} (zs : List DiskZone) (i p : ℕ) (c : Condition) → Covers b zs r → Covers b (set zs i (moved (get_or zs i no_zone) p c)) r
covers_set {b} {r} zs i p c v = record {
  at = λ x low high.
      rw (zone_at-set zs i x p c) (set_keeps (λ z. Inside b r z) no_zone zs i (zone_holding zs x) _ (λ n. inside_moved n p c) (v.at x low high));
}

-- a row that is where it was, as large as it was
pub covers_same : {b : ℕ} {zs : List DiskZone} {r q : Row} → q.start ≡ r.start → q.capacity ≡ r.capacity → Covers b zs r → Covers b zs q
covers_same {b} {zs} {r} {q} s c v = record {
  at = λ x low high.
      let i = v.at x (omega (arith, s)) (omega (arith, s, c)) in
      record { kind = i.kind; sound = i.sound; low = omega (arith, s, i.low); high = omega (arith, s, c, i.high) };
}

-- THE KINDS of the zones stay.
abbrev pub kinds : List DiskZone → List FileKind
kinds zs = map (λ (z : DiskZone). z.kind) zs

pub kinds_set : (zs : List DiskZone) (i p : ℕ) (c : Condition) → kinds (set zs i (moved (get_or zs i no_zone) p c)) ≡ kinds zs
unfolding moved
kinds_set zs i p c = map-set_same (λ (z : DiskZone). z.kind) zs i (moved (get_or zs i no_zone) p c) no_zone refl
