-- Whatever the disk does with a command that its file's row would issue, the invariant of the file holds again after its completion.
-- Assumes nothing.
use mathlib.Core.Bool.{Bool, true, false, not, ◌&&◌}
use mathlib.Core.Path.{◌≡◌, refl, sym, subst}
use Prim.Native.Nat.{ℕ, ◌*◌, min}
use native.Mathlib.Omega.{arith}
use Rattle.types.specs.declared.Row.{Row}
use Rattle.types.specs.declared.Command.{Command}
use Rattle.types.specs.declared.Movement.{Movement}
use Rattle.types.specs.declared.Movement.TheVariants.{Stays, Advances, ToStart, ToEnd}
use Rattle.types.specs.declared.FileKind.{FileKind}
use Rattle.types.specs.declared.FileKind.TheVariants.{Sequential}
use Rattle.types.specs.declared.Condition.TheVariants.{Healthy}
use Rattle.types.specs.declared.ErrorPolicy.{ErrorPolicy}
use Rattle.types.specs.Commands.{movement_of}
use Rattle.types.specs.Predicates.{is_healthy}
use Rattle.types.proofs.Tests.{and_left}
use Rattle.types.proofs.Blocks.{IsBlock}
use Rattle.zones.specs.declared.Zone.{Zone}
use Rattle.recovery.specs.Success.{row_after}
use Rattle.disk.specs.Disk.{DiskZone, moved, struck, Choice, perform, performed_by, allows, takes_at, landed_by}
use Rattle.disk.specs.Facts.{ShowsZone}
use Rattle.consistency.specs.FileHistory.{FileHistory, after_failure, after_command}
use Rattle.disk.proofs.Whole.{At, at_write, whole_min}
use Rattle.disk.proofs.Conditions.{not_better_lem}
use Rattle.disk.proofs.SoundZone.{SoundZone, sound_struck}
use Rattle.consistency.proofs.Agrees.{Agrees, Live, RowState, live, dead}
use Rattle.held.proofs.Issued.{Issued, Placed}
use Rattle.consistency.proofs.Moves.{advances_only}
use Rattle.consistency.proofs.Successes.{advanced-seq, at_place, keeps_success}
use Rattle.consistency.proofs.Failures.{failed_row, keeps_failed}

-- the row that a completion leaves
abbrev pub completed_row : FileKind → Bool → ErrorPolicy → Command → Zone → Row → Row
completed_row k true p c z r = row_after k c r
completed_row k false p c z r = failed_row k p c z r

-- a file that no command fits
pub live_of : {b : ℕ} {p : ErrorPolicy} {z : DiskZone} {s : FileHistory} {r : Row} {c : Command} → Agrees b p z s r → Issued b Sequential r c → Live b p z s r
live_of {b} {p} {z} {s} {r} a i = by a.state
  where
    by : RowState b p z s r → Live b p z s r
    by (live l) = l
    by (dead d) = let e = d.access in let f = i.readable in let x : ◌≡◌ {A = ℕ} 0 1 = cc in absurd (omega arith)

module _ {b : ℕ} {p : ErrorPolicy} {z : DiskZone} {s : FileHistory} {r : Row} (block : IsBlock b) (a : Agrees b p z s r) (c : Command) (i : Issued b Sequential r c) where
  -- what an append asks of the zone that takes it
  taken : movement_of c.kind ≡ Advances → allows s.quiet z c ≡ true → is_healthy z.condition && takes_at z.kind z.pointer c.address ≡ true
  unfolding allows
  taken e g = rw (advances_only c.kind e, e) at g

  -- where the pointer is once some blocks have landed
  landed_by_lem : (v : Movement) (t : Bool) → (v ≡ Advances → Placed b r c) → (v ≡ Advances → t ≡ true → is_healthy z.condition && takes_at z.kind z.pointer c.address ≡ true) → (lands : ℕ) → z.condition ≡ Healthy
      → At b z (landed_by v t b z c.length lands)
  landed_by_lem Stays t f g lands h = a.sound.point a.kind h
  landed_by_lem Advances true f g lands h =
      let w = f refl in
      let n = c.length in
      subst (At b z) (sym (advanced-seq z.kind z.pointer (min (lands * b) n) a.kind)) (at_write block z z.pointer (min (lands * b) n) (a.sound.point a.kind h) (whole_min block lands n w.whole)
      (omega (arith, w.room, a.capacity, at_place block a (live_of a i) w (g refl refl))))
  landed_by_lem Advances false f g lands h = a.sound.point a.kind h
  landed_by_lem ToStart t f g lands h = a.sound.point a.kind h
  landed_by_lem ToEnd t f g lands h = a.sound.point a.kind h

  -- the zone after a failure is good input
  abbrev pub failed_zone : Choice → DiskZone
  failed_zone o = struck b z (landed_by (movement_of c.kind) (allows s.quiet z c) b z c.length o.lands) o.mishap

  pub failed_sound : (o : Choice) → SoundZone b (failed_zone o)
  failed_sound o = sound_struck block z a.sound _ o.mishap (λ q. landed_by_lem (movement_of c.kind) (allows s.quiet z c) (i.placed refl) taken o.lands)

  keeps_failure : (o : Choice) {q : Zone} → ShowsZone q (failed_zone o) → Agrees b p (failed_zone o) (after_failure s c (failed_zone o)) (failed_row Sequential p c q r)
  unfolding struck moved
  keeps_failure o w =
      let l = live_of a i in
      keeps_failed block a l i.readable (failed_zone o) (failed_sound o) a.kind refl refl (not_better_lem r.condition z.condition o.mishap.harm l.worse) w c

  keeps_performed : (o : Choice) (q : Zone) (t : Bool) → allows s.quiet z c && not o.fails ≡ t
      → let done = performed_by t b s.quiet z c o in
      (done.succeeded ≡ false → ShowsZone q done.zone) → Agrees b p done.zone (after_command done.succeeded s c done.zone) (completed_row Sequential done.succeeded p c q r)
  keeps_performed o q true g w = keeps_success block a (live_of a i) c i (and_left _ _ g)
  keeps_performed o q false g w = keeps_failure o (w refl)

  -- THE CORE: with any record of a failure that shows the zone
  pub keeps_command : (o : Choice) (q : Zone)
      → let done = perform b s.quiet z c o in
      (done.succeeded ≡ false → ShowsZone q done.zone) → Agrees b p done.zone (after_command done.succeeded s c done.zone) (completed_row Sequential done.succeeded p c q r)
  unfolding perform
  keeps_command o q w = keeps_performed o q (allows s.quiet z c && not o.fails) refl w
