-- A command that is done keeps the invariant of its file.
-- Assumes nothing.
use mathlib.Core.Bool.{Bool, true, false, not, cond, or-true, or-false, ◌&&◌, ◌||◌}
use mathlib.Core.Path.{◌≡◌, refl, sym, ◌∙◌, subst}
use Prim.Native.Nat.{ℕ, ◌+◌, ◌-◌, ◌*◌, ◌/◌, ◌%◌, ◌≤◌}
use native.Mathlib.Omega.{arith}
use lib.Dec.{eqb}
use borrow.Author.Tests.{eqb-true}
use Rattle.types.specs.declared.Row.{Row}
use Rattle.types.specs.declared.Command.{Command}
use Rattle.types.specs.declared.Movement.{Movement}
use Rattle.types.specs.declared.Movement.TheVariants.{Stays, Advances, ToStart, ToEnd}
use Rattle.types.specs.declared.FileKind.{FileKind}
use Rattle.types.specs.declared.FileKind.TheVariants.{Conventional, Sequential}
use Rattle.types.specs.declared.Condition.{Condition}
use Rattle.types.specs.declared.Condition.TheVariants.{Healthy, ReadOnly, Offline}
use Rattle.types.specs.declared.ErrorPolicy.{ErrorPolicy}
use Rattle.types.specs.Commands.{movement_of, is_read, opens_or_closes}
use Rattle.types.specs.Predicates.{is_healthy, is_none}
use Rattle.types.proofs.Tests.{and_left, and_right}
use Rattle.types.proofs.Blocks.{IsBlock, small, large}
use Rattle.table.specs.Rows.{with_size}
use Rattle.recovery.specs.Success.{size_after, row_after}
use Rattle.disk.specs.Disk.{DiskZone, moved, allows, allows_by, takes_at, flushes, advanced, pointer_after}
use Rattle.consistency.specs.FileHistory.{FileHistory, last_size_at, updated, after_success}
use Rattle.disk.proofs.Whole.{At, at_start, at_end, at_write, whole_size}
use Rattle.disk.proofs.Conditions.{healthy-is, healthy_known}
use Rattle.disk.proofs.SoundZone.{sound_moved}
use Rattle.consistency.proofs.Shown.{written_to, fresh_size_lem}
use Rattle.consistency.proofs.Agrees.{Agrees, Live, live, size_last, row_last}
use Rattle.held.proofs.Issued.{Issued, Placed}
use Rattle.consistency.proofs.Moves.{read_stays, opening_stays}

-- the last size at a point: v, which a fresh mount gives where the file is quiet and its zone healthy, and which it was before elsewhere
last_at : (q : Bool) (h : Condition) (f old v : ℕ) → (q ≡ true → h ≡ Healthy → v ≡ f) → (q && is_healthy h ≡ false → v ≡ old) → cond (q && is_healthy h) (cond (is_healthy h) f 0) old ≡ v
last_at true Healthy f old v a b = sym (a refl refl)
last_at true ReadOnly f old v a b = sym (b refl)
last_at true Offline f old v a b = sym (b refl)
last_at false h f old v a b = sym (b refl)

pub advanced-seq : (k : FileKind) (p n : ℕ) → k ≡ Sequential → advanced k p n ≡ p + n / 512
advanced-seq Conventional p n e = let x : ◌≡◌ {A = ℕ} 0 1 = cc in absurd (omega arith)
advanced-seq Sequential p n e = refl

written_more : {b : ℕ} → IsBlock b → (p start size n : ℕ) → start ≤ p → n % b ≡ 0 → (p - start) * 512 ≡ size → size + n ≡ (p + n / 512 - start) * 512
written_more small p start size n l w o = omega arith
written_more large p start size n l w o = omega arith

module _ {b : ℕ} {p : ErrorPolicy} {z : DiskZone} {s : FileHistory} {r : Row} (block : IsBlock b) (a : Agrees b p z s r) (l : Live b p z s r) where
  -- where what the zone takes starts
  pub at_place : {c : Command} → Placed b r c → is_healthy z.condition && takes_at z.kind z.pointer c.address ≡ true → written_to z ≡ r.size
  at_place {c} i g =
      let d : eqb c.address (z.pointer * 512) ≡ true = subst (λ k. takes_at k z.pointer c.address ≡ true) a.kind (and_right (is_healthy z.condition) _ g) in
      omega (arith, eqb-true c.address (z.pointer * 512) d, i.place, a.start)

  module _ (reads : is_none r.access ≡ false) where
    -- the pointer moves to `to`, the size becomes v, and the file is quiet or not
    keeps_moved : (to : ℕ) (q : Bool) (v : ℕ) → (z.condition ≡ Healthy → At b z to) → (q ≡ true → z.condition ≡ r.condition)
        → (q ≡ true → z.condition ≡ Healthy → v ≡ (to - z.start) * 512) → (q && is_healthy z.condition ≡ false → v ≡ s.last_size) → v % b ≡ 0 → v ≤ z.capacity * 512
        → Agrees b p (moved z to z.condition) (updated s (moved z to z.condition) q s.recovered) (with_size r v)
    unfolding moved
    keeps_moved to q v at known fresh old whole fits =
        let lasts : last_size_at q (moved z to z.condition) s.last_size ≡ v = rw (fresh_size_lem (moved z to z.condition) a.kind) (last_at q z.condition ((to - z.start) * 512) s.last_size v fresh old) in
        record {
          kind = a.kind;
          sound = sound_moved z a.sound to z.condition (λ k h. at h);
          inner = a.inner;
          start = a.start;
          capacity = a.capacity;
          state = live (record {
            size = sym (size_last p s.recovered r.condition _ (rw l.access at reads) ∙ lasts);
            access = l.access;
            intact = l.intact;
            known = known;
            worse = l.worse;
            last = λ e h. lasts ∙ fresh e h;
            whole = rw lasts whole;
            fits = rw lasts fits;
            mounted = l.mounted;
          });
        }

    -- a command that does not move the pointer, and whose success tells nothing new
    keeps_still : (q : Bool) → (q ≡ true → s.quiet ≡ true) → Agrees b p (moved z z.pointer z.condition) (updated s (moved z z.pointer z.condition) q s.recovered) (with_size r r.size)
    keeps_still q old =
        let e = row_last l reads in
        keeps_moved z.pointer q r.size (a.sound.point a.kind) (λ t. l.known (old t)) (λ t h. e ∙ l.last (old t) h) (λ t. e) (rw e l.whole) (rw e l.fits)

    -- one that moves it, on a healthy zone, and leaves the file quiet
    keeps_move : (q : Bool) → q ≡ true → is_healthy z.condition ≡ true → (to v : ℕ) → At b z to → v ≡ (to - z.start) * 512
        → Agrees b p (moved z to z.condition) (updated s (moved z to z.condition) q s.recovered) (with_size r v)
    keeps_move q quiet h to v at e =
        keeps_moved to q v (λ _. at) (λ _. healthy_known r.condition z.condition l.worse (healthy-is _ h)) (λ _ _. e)
        (λ t. cc) (rw e (whole_size block z to a.sound.base at)) (omega (arith, at))

    -- by what it moves; what moves is no read
    keeps_by : (c : Command) (v : Movement) (read : Bool) → (read ≡ true → v ≡ Stays) → (v ≡ Advances → Placed b r c) → allows_by v read s.quiet z c.address ≡ true
        → let new = moved z (pointer_after z v c.length) z.condition in Agrees b p new (updated s new (s.quiet || not read) s.recovered) (with_size r (size_after Sequential v c.length r))
    keeps_by c Stays true still i g = keeps_still _ (λ t. cc (or-false s.quiet))
    keeps_by c Stays false still i g = keeps_still _ (λ t. subst (λ k. flushes k s.quiet ≡ true) a.kind g)
    keeps_by c Advances true still i g = let e = still refl in let x : ◌≡◌ {A = ℕ} 0 1 = cc in absurd (omega arith)
    keeps_by c Advances false still i g =
        let h : is_healthy z.condition ≡ true = and_left _ _ g in
        let f = i refl in
        let o = at_place f g in
        let n = c.length in
        let at = a.sound.point a.kind (healthy-is _ h) in
        rw (advanced-seq z.kind z.pointer n a.kind) (keeps_move _ (or-true s.quiet) h (z.pointer + n / 512) (r.size + n)
        (at_write block z z.pointer n at f.whole (omega (arith, f.room, a.capacity))) (written_more block z.pointer z.start r.size n at.low f.whole o))
    keeps_by c ToStart true still i g = let e = still refl in let x : ◌≡◌ {A = ℕ} 0 1 = cc in absurd (omega arith)
    keeps_by c ToStart false still i g = keeps_move _ (or-true s.quiet) g z.start 0 (at_start z a.sound.base) (omega arith)
    keeps_by c ToEnd true still i g = let e = still refl in let x : ◌≡◌ {A = ℕ} 0 1 = cc in absurd (omega arith)
    keeps_by c ToEnd false still i g = keeps_move _ (or-true s.quiet) g (z.start + z.capacity) r.capacity
        (at_end block z a.sound.base a.sound.whole) (omega (arith, a.capacity))

    -- an open or a close, which moves nothing and counts as a good read
    keeps_opening : (c : Command) (v : Movement) → v ≡ Stays
        → let new = moved z (pointer_after z v c.length) z.condition in Agrees b p new (updated s new (s.quiet || false) s.recovered) (with_size r (size_after Sequential v c.length r))
    keeps_opening c Stays e = keeps_still _ (λ t. cc (or-false s.quiet))
    keeps_opening c Advances e = let x : ◌≡◌ {A = ℕ} 0 1 = cc in absurd (omega arith)
    keeps_opening c ToStart e = let x : ◌≡◌ {A = ℕ} 0 1 = cc in absurd (omega arith)
    keeps_opening c ToEnd e = let x : ◌≡◌ {A = ℕ} 0 1 = cc in absurd (omega arith)

  pub keeps_success : (c : Command) → Issued b Sequential r c → allows s.quiet z c ≡ true
      → let new = moved z (pointer_after z (movement_of c.kind) c.length) z.condition in Agrees b p new (after_success s c new) (row_after Sequential c r)
  unfolding after_success allows
  keeps_success c i g = by (opens_or_closes c.kind) refl g
    where
      by : (t : Bool) → opens_or_closes c.kind ≡ t → cond t (is_healthy z.condition) (allows_by (movement_of c.kind) (is_read c.kind) s.quiet z c.address) ≡ true
          → let new = moved z (pointer_after z (movement_of c.kind) c.length) z.condition in
          Agrees b p new (updated s new (s.quiet || not (is_read c.kind || t)) s.recovered) (row_after Sequential c r)
      by true e g = rw (or-true (is_read c.kind)) (keeps_opening i.readable c (movement_of c.kind) (opening_stays c.kind e))
      by false e g = rw (or-false (is_read c.kind)) (keeps_by i.readable c (movement_of c.kind) (is_read c.kind) (read_stays c.kind) (i.placed refl) g)
