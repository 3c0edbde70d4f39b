-- What the invariant says of a quiet file: demand 3's comparison.
-- Assumes nothing.
use mathlib.Core.Bool.{Bool, true, false, not, cond, ◌&&◌, ◌||◌}
use mathlib.Core.Path.{◌≡◌, refl, ap, ◌∙◌}
use Prim.Native.Nat.{ℕ}
use Rattle.types.specs.declared.Row.{Row}
use Rattle.types.specs.declared.Condition.{Condition}
use Rattle.types.specs.declared.Condition.TheVariants.{Healthy, ReadOnly, Offline}
use Rattle.types.specs.declared.Access.{Access}
use Rattle.types.specs.declared.ErrorPolicy.{ErrorPolicy}
use Rattle.types.specs.declared.ErrorPolicy.TheVariants.{RemountRo, ZoneRo, ZoneOffline, Repair}
use Rattle.types.specs.Predicates.{is_healthy, is_read_only}
use Rattle.disk.specs.Disk.{DiskZone}
use Rattle.consistency.specs.FileHistory.{FileHistory}
use Rattle.consistency.specs.Claim.{promised_size, promised_access, promised_condition, AsPromised, is_zone_offline, is_zone_ro}
use Rattle.consistency.proofs.Shown.{written_to, shown_row}
use Rattle.consistency.proofs.Agrees.{Agrees, Live, Dead, RowState, live, dead, size_of, access_of}

size_promised : (p : ErrorPolicy) (s : Bool) (h : Condition) (last f : ℕ) → (s ≡ false → h ≡ Healthy) → (h ≡ Healthy → last ≡ f)
    → size_of p s h last ≡ cond (is_zone_offline p && s) 0 (cond (not (is_zone_offline p) && (is_read_only h && true)) last (cond (is_healthy h) f 0))
size_promised RemountRo false h last f i l = cc (i refl, l (i refl))
size_promised ZoneRo false h last f i l = cc (i refl, l (i refl))
size_promised ZoneOffline false h last f i l = cc (i refl, l (i refl))
size_promised Repair false h last f i l = cc (i refl, l (i refl))
size_promised ZoneOffline true Healthy last f i l = refl
size_promised ZoneOffline true ReadOnly last f i l = refl
size_promised ZoneOffline true Offline last f i l = refl
size_promised RemountRo true Healthy last f i l = l refl
size_promised RemountRo true ReadOnly last f i l = refl
size_promised RemountRo true Offline last f i l = refl
size_promised ZoneRo true Healthy last f i l = l refl
size_promised ZoneRo true ReadOnly last f i l = refl
size_promised ZoneRo true Offline last f i l = refl
size_promised Repair true Healthy last f i l = l refl
size_promised Repair true ReadOnly last f i l = refl
size_promised Repair true Offline last f i l = refl

access_promised : (p : ErrorPolicy) (s : Bool) (h : Condition) → (s ≡ false → h ≡ Healthy)
    → access_of p s h ≡ cond (is_zone_offline p && s) Access.Nothing (cond (not (is_zone_offline p) && (is_read_only h && true) || (is_zone_ro p && (s && is_healthy h))) Access.Read (cond (is_healthy h) Access.Write Access.Nothing))
access_promised RemountRo false h i = cc (i refl)
access_promised ZoneRo false h i = cc (i refl)
access_promised ZoneOffline false h i = cc (i refl)
access_promised Repair false h i = cc (i refl)
access_promised ZoneOffline true Healthy i = refl
access_promised ZoneOffline true ReadOnly i = refl
access_promised ZoneOffline true Offline i = refl
access_promised RemountRo true Healthy i = refl
access_promised RemountRo true ReadOnly i = refl
access_promised RemountRo true Offline i = refl
access_promised ZoneRo true Healthy i = refl
access_promised ZoneRo true ReadOnly i = refl
access_promised ZoneRo true Offline i = refl
access_promised Repair true Healthy i = refl
access_promised Repair true ReadOnly i = refl
access_promised Repair true Offline i = refl

condition_promised : (h : Condition) → h ≡ cond (is_read_only h && true) ReadOnly (cond (is_healthy h) Healthy Offline)
condition_promised Healthy = refl
condition_promised ReadOnly = refl
condition_promised Offline = refl

promised_live : {b : ℕ} {p : ErrorPolicy} {z : DiskZone} {s : FileHistory} {r : Row} → Agrees b p z s r → Live b p z s r → s.quiet ≡ true → AsPromised p s z (shown_row z) r
unfolding promised_size promised_access promised_condition
promised_live {b} {p} {z} {s} {r} a l q =
    let sized = size_promised p s.recovered r.condition s.last_size (written_to z) l.intact (λ e. l.last q (l.known q ∙ e)) in
    let given = access_promised p s.recovered r.condition l.intact in
    record { start = a.start; capacity = a.capacity; size = rw (l.known q, l.mounted) (l.size ∙ sized); access = rw (l.known q, l.mounted) (l.access ∙ given); condition = rw (l.known q, l.mounted) (condition_promised r.condition) }

-- a zone that was not healthy at mount is not read-only now, or was so then
not_turned : (h : Condition) (t : Bool) → (t ≡ false → h ≡ Offline) → is_read_only h && not t ≡ false
not_turned Healthy t f = refl
not_turned ReadOnly true f = refl
not_turned ReadOnly false f = let e : is_read_only ReadOnly ≡ is_read_only Offline = ap is_read_only (f refl) in e
not_turned Offline t f = refl

promised_dead : {b : ℕ} {p : ErrorPolicy} {z : DiskZone} {s : FileHistory} {r : Row} → Agrees b p z s r → Dead z s r → AsPromised p s z (shown_row z) r
unfolding promised_size promised_access promised_condition
promised_dead {b} {p} {z} {s} {r} a d =
    let t = not_turned z.condition s.read_only_at_mount d.mounted in
    record {
      start = a.start;
      capacity = a.capacity;
      size = rw (d.untouched, d.unhealthy, t) (d.size ∙ nought p);
      access = rw (d.untouched, d.unhealthy, t) (d.access ∙ none_of p);
      condition = rw (d.unhealthy, t) d.condition;
    }
  where
    nought : (p : ErrorPolicy) → 0 ≡ cond (is_zone_offline p && false) 0 (cond (not (is_zone_offline p) && false) s.last_size 0)
    nought RemountRo = refl
    nought ZoneRo = refl
    nought ZoneOffline = refl
    nought Repair = refl

    none_of : (p : ErrorPolicy) → Access.Nothing ≡ cond (is_zone_offline p && false) Access.Nothing (cond (not (is_zone_offline p) && false || (is_zone_ro p && false)) Access.Read Access.Nothing)
    none_of RemountRo = refl
    none_of ZoneRo = refl
    none_of ZoneOffline = refl
    none_of Repair = refl

pub promised : {b : ℕ} {p : ErrorPolicy} {z : DiskZone} {s : FileHistory} {r : Row} → Agrees b p z s r → s.quiet ≡ true → AsPromised p s z (shown_row z) r
promised {b} {p} {z} {s} {r} a q = by a.state
  where
    by : RowState b p z s r → AsPromised p s z (shown_row z) r
    by (live l) = promised_live a l q
    by (dead d) = promised_dead a d
