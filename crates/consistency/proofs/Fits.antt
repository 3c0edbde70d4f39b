-- A truthful record fits its row: number 9 is never given of it.
-- Assumes nothing.
use mathlib.Core.Bool.{Bool, true, false, not, ◌&&◌, false≢true}
use mathlib.Core.Path.{◌≡◌, refl, sym, ap, ◌∙◌, subst}
use Prim.Native.Nat.{ℕ, ◌*◌}
use native.Mathlib.Omega.{arith}
use Rattle.types.specs.declared.Row.{Row}
use Rattle.types.specs.declared.Command.{Command}
use Rattle.types.specs.declared.FileKind.TheVariants.{Conventional, Sequential}
use Rattle.types.specs.declared.ErrorPolicy.{ErrorPolicy}
use Rattle.types.specs.Predicates.{is_conventional}
use Rattle.types.proofs.Blocks.{IsBlock}
use Rattle.recovery.specs.Fits.{record_fits}
use Rattle.recovery.proofs.Laws.{sequential_fits, conventional_fits}
use Rattle.zones.specs.declared.Zone.{Zone}
use Rattle.disk.specs.Facts.{ShowsZone}
use Rattle.disk.specs.Disk.{DiskZone, Choice, moved, struck, perform, performed_by, allows}
use Rattle.consistency.specs.FileHistory.{FileHistory}
use Rattle.disk.proofs.Conditions.{not_better, not_better_lem}
use Rattle.disk.proofs.SoundZone.{SoundZone, says_conventional, says_sequential, says_condition, record_good}
use Rattle.consistency.proofs.Agrees.{Agrees}
use Rattle.held.proofs.Issued.{Issued}
use Rattle.consistency.proofs.Doings.{live_of, failed_zone, failed_sound}
use Rattle.consistency.proofs.Files.{Inside}

-- A SEQUENTIAL FILE'S

record_fits_lem : {b : ℕ} {p : ErrorPolicy} {z : DiskZone} {s : FileHistory} {r : Row} → Agrees b p z s r → (new : DiskZone) → SoundZone b new → new.kind ≡ Sequential → new.start ≡ z.start → new.capacity ≡ z.capacity
    → not_better r.condition new.condition ≡ true → {q : Zone} → ShowsZone q new → record_fits b Sequential r q ≡ true
record_fits_lem {b} {r = r} a new sound kind start capacity worse {q} w =
    sequential_fits b r q (record_good w sound) (says_sequential w ∙ ap (λ k. not (is_conventional k)) kind)
    (w.start ∙ start ∙ sym a.start) (ap (λ n. n * 512) (w.capacity ∙ capacity) ∙ sym a.capacity)
    (subst (λ h. not_better r.condition h ≡ true) (sym (says_condition w)) worse)

module _ {b : ℕ} {p : ErrorPolicy} {z : DiskZone} {s : FileHistory} {r : Row} (block : IsBlock b) (a : Agrees b p z s r) (c : Command) (i : Issued b Sequential r c) (o : Choice) (q : Zone) where
  performed_fits : (t : Bool) → let done = performed_by t b s.quiet z c o in done.succeeded ≡ false → ShowsZone q done.zone → record_fits b Sequential r q ≡ true
  unfolding struck moved
  performed_fits true g w = absurd (false≢true (sym g))
  performed_fits false g w = record_fits_lem a (failed_zone block a c i o) (failed_sound block a c i o) a.kind refl refl (not_better_lem r.condition z.condition o.mishap.harm (live_of a i).worse) w

  pub report_fits : let done = perform b s.quiet z c o in done.succeeded ≡ false → ShowsZone q done.zone → record_fits b Sequential r q ≡ true
  unfolding perform
  report_fits g w = performed_fits (allows s.quiet z c && not o.fails) g w

-- A CONVENTIONAL FILE'S

pub inside_fits : {b : ℕ} {r : Row} {z : DiskZone} {q : Zone} → Inside b r z → ShowsZone q z → record_fits b Conventional r q ≡ true
inside_fits {b} {r} {z} {q} i w =
    conventional_fits b r q (record_good w i.sound) (says_conventional w ∙ ap is_conventional i.kind)
    (omega (arith, w.start, i.low)) (omega (arith, w.start, w.length, i.high))
