-- A mishap keeps the invariant of a file.
-- Assumes nothing.
use mathlib.Core.Path.{◌≡◌, refl, sym, ◌∙◌}
use mathlib.Core.Bool.{true}
use Prim.Native.Nat.{ℕ}
use lib.Dec.{eqb}
use borrow.Author.Tests.{eqb-true}
use Rattle.types.specs.declared.Row.{Row}
use Rattle.types.specs.declared.FileKind.TheVariants.{Sequential}
use Rattle.types.specs.declared.Condition.TheVariants.{Healthy}
use Rattle.types.specs.declared.ErrorPolicy.{ErrorPolicy}
use Rattle.types.specs.Codes.{condition_code}
use Rattle.types.proofs.Tests.{and_left, and_right, means_out}
use Rattle.types.proofs.Blocks.{IsBlock}
use Rattle.disk.specs.Disk.{DiskZone, has_pointer, Mishap, moved, struck}
use Rattle.consistency.specs.FileHistory.{FileHistory, unmoved, after_mishap}
use Rattle.disk.proofs.Conditions.{same_condition, not_better_lem, unhealthy_still, offline_still}
use Rattle.disk.proofs.SoundZone.{sound_struck}
use Rattle.consistency.proofs.Shown.{written_to}
use Rattle.consistency.proofs.Agrees.{Agrees, RowState, live, dead}

unmoved_condition : (z new : DiskZone) → unmoved z new ≡ true → z.condition ≡ new.condition
unfolding unmoved
unmoved_condition z new e = same_condition z.condition new.condition (and_left _ _ e)

unmoved_pointer : (z new : DiskZone) → unmoved z new ≡ true → z.kind ≡ Sequential → z.condition ≡ Healthy → z.pointer ≡ new.pointer
unfolding unmoved
unmoved_pointer z new e k h =
    eqb-true _ _ (means_out (has_pointer z) _ (and_right (eqb (condition_code z.condition) (condition_code new.condition)) _ e) (rw (k, h)))

last_still : (z new : DiskZone) {n : ℕ} → new.start ≡ z.start → z.pointer ≡ new.pointer → n ≡ written_to z → n ≡ written_to new
last_still z new s p e = rw (← p, s) e

pub keeps_mishap : {b : ℕ} {p : ErrorPolicy} {z : DiskZone} {s : FileHistory} {r : Row} → IsBlock b → (e : Mishap) → Agrees b p z s r → Agrees b p (struck b z z.pointer e) (after_mishap s z (struck b z z.pointer e)) r
unfolding struck moved after_mishap
keeps_mishap {b} {p} {z} {s} {r} k e a = record {
  kind = a.kind;
  sound = sound_struck k z a.sound z.pointer e a.sound.point;
  inner = a.inner;
  start = a.start;
  capacity = a.capacity;
  state = by a.state;
}
  where
    new : DiskZone
    new = struck b z z.pointer e

    by : RowState b p z s r → RowState b p (struck b z z.pointer e) (after_mishap s z (struck b z z.pointer e)) r
    by (live l) = live (record {
      size = l.size;
      access = l.access;
      intact = l.intact;
      known = λ q. sym (unmoved_condition z new (and_right s.quiet (unmoved z new) q)) ∙ l.known (and_left _ _ q);
      last = λ q h.
          let u = and_right s.quiet (unmoved z new) q in
          let healthy = unmoved_condition z new u ∙ h in
          last_still z new refl (unmoved_pointer z new u a.kind healthy) (l.last (and_left _ _ q) healthy);
      worse = not_better_lem r.condition z.condition e.harm l.worse;
      whole = l.whole;
      fits = l.fits;
      mounted = l.mounted;
    })
    by (dead d) = dead (record {
      size = d.size;
      access = d.access;
      condition = d.condition;
      untouched = d.untouched;
      unhealthy = unhealthy_still z.condition e.harm d.unhealthy;
      mounted = λ m. offline_still z.condition e.harm (d.mounted m);
    })
