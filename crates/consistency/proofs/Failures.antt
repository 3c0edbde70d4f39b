-- A failure, with any record that shows the zone as it is then, keeps the invariant of its file.
-- Assumes nothing.
use mathlib.Core.Bool.{Bool, true, false, not, cond, or-true, or-false, ◌&&◌, ◌||◌}
use mathlib.Core.Path.{◌≡◌, refl, sym, ap, ◌∙◌}
use Prim.Native.Nat.{ℕ, ◌*◌, ◌%◌, ◌≤◌}
use native.Mathlib.Omega.{arith}
use lib.Dec.{eqb}
use borrow.Author.Tests.{eqb-true}
use Rattle.types.specs.declared.Row.{Row}
use Rattle.types.specs.declared.Command.{Command}
use Rattle.types.specs.declared.CommandKind.{CommandKind}
use Rattle.types.specs.declared.FileKind.{FileKind}
use Rattle.types.specs.declared.FileKind.TheVariants.{Sequential}
use Rattle.types.specs.declared.Condition.{Condition}
use Rattle.types.specs.declared.Condition.TheVariants.{Healthy, ReadOnly, Offline}
use Rattle.types.specs.declared.Access.{Access}
use Rattle.types.specs.declared.ErrorPolicy.{ErrorPolicy}
use Rattle.types.specs.declared.ErrorPolicy.TheVariants.{RemountRo, ZoneRo, ZoneOffline, Repair}
use Rattle.types.specs.Commands.{is_read}
use Rattle.types.specs.Predicates.{is_healthy, is_none}
use Rattle.types.proofs.Tests.{and_left, and_right}
use Rattle.types.proofs.Blocks.{IsBlock}
use Rattle.table.specs.Rows.{recovered_to}
use Rattle.zones.specs.declared.Zone.{Zone}
use Rattle.zones.specs.Zone.{condition_of, written_size}
use Rattle.recovery.specs.declared.grid.SizeRule.{SizeRule}
use Rattle.recovery.specs.declared.grid.AccessRule.{AccessRule}
use Rattle.recovery.specs.Recovery.{nothing_lost, ruled_size, ruled_access, recovery_rule, recovered_row, kept_open}
use Rattle.disk.specs.Disk.{DiskZone}
use Rattle.disk.specs.Facts.{ShowsZone}
use Rattle.consistency.specs.FileHistory.{FileHistory, harmless, last_size_at, updated, after_failure}
use Rattle.disk.proofs.Whole.{whole_size}
use Rattle.disk.proofs.Conditions.{not_better, healthy-is, healthy_known, not_better_self}
use Rattle.disk.proofs.SoundZone.{SoundZone, says_condition, says_healthy}
use Rattle.consistency.proofs.Shown.{written_to, written_shown, fresh_size_lem}
use Rattle.consistency.proofs.Agrees.{grid_rule, size_by, size_of, access_of, Agrees, agrees_beside, Live, live, size_last, row_last}

-- the row that a failure leaves, by the zone's record
abbrev pub failed_row : FileKind → ErrorPolicy → Command → Zone → Row → Row
failed_row k p c z r = cond (nothing_lost k c.kind z r.size) r (kept_open c.kind (recovered_row p k z r))

-- and with the opens that it had
abbrev ruled_row : FileKind → ErrorPolicy → Command → Zone → Row → Row
ruled_row k p c z r = cond (nothing_lost k c.kind z r.size) r (recovered_row p k z r)

-- A RECORD THAT SHOWS THE ZONE: a recovery by the zone itself

abbrev recovered_by : ErrorPolicy → Condition → ℕ → Row → Row
recovered_by p h f r = recovered_to r (size_by (grid_rule p h).size f r.size) h (ruled_access (grid_rule p h).access r.access)

ruled_size_lem : (u : SizeRule) (z : Zone) (n : ℕ) → ruled_size u Sequential z n ≡ size_by u (written_size z) n
ruled_size_lem SizeRule.Fixed z n = refl
ruled_size_lem SizeRule.AsIs z n = refl
ruled_size_lem SizeRule.Zero z n = refl

-- the pointer counts only where the zone is healthy
size_alike : (p : ErrorPolicy) (h : Condition) (f g n : ℕ) → (h ≡ Healthy → f ≡ g) → size_by (grid_rule p h).size f n ≡ size_by (grid_rule p h).size g n
size_alike RemountRo Healthy f g n e = e refl
size_alike RemountRo ReadOnly f g n e = refl
size_alike RemountRo Offline f g n e = refl
size_alike ZoneRo Healthy f g n e = e refl
size_alike ZoneRo ReadOnly f g n e = refl
size_alike ZoneRo Offline f g n e = refl
size_alike ZoneOffline Healthy f g n e = refl
size_alike ZoneOffline ReadOnly f g n e = refl
size_alike ZoneOffline Offline f g n e = refl
size_alike Repair Healthy f g n e = e refl
size_alike Repair ReadOnly f g n e = refl
size_alike Repair Offline f g n e = refl

test_alike : (h : Condition) (f g n : ℕ) → (h ≡ Healthy → f ≡ g) → is_healthy h && eqb n f ≡ is_healthy h && eqb n g
test_alike Healthy f g n e = ap (eqb n) (e refl)
test_alike ReadOnly f g n e = refl
test_alike Offline f g n e = refl

module _ {q : Zone} {z : DiskZone} (w : ShowsZone q z) (k : z.kind ≡ Sequential) where
  recovered_by_lem : (p : ErrorPolicy) (r : Row) → recovered_row p Sequential q r ≡ recovered_by p z.condition (written_to z) r
  unfolding recovered_row
  recovered_by_lem p r =
      ap (λ n. recovered_to r n (condition_of q) (ruled_access (recovery_rule p q).access r.access)) (ruled_size_lem (recovery_rule p q).size q r.size)
      ∙ ap (λ h. recovered_by p h (written_size q) r) (says_condition w)
      ∙ ap (λ n. recovered_to r n z.condition (ruled_access (grid_rule p z.condition).access r.access)) (size_alike p z.condition (written_size q) (written_to z) r.size (written_shown w k))

  failed_by_lem : (p : ErrorPolicy) (c : Command) (r : Row)
      → ruled_row Sequential p c q r ≡ cond (nothing_lost Sequential c.kind q r.size) r (recovered_by p z.condition (written_to z) r)
  failed_by_lem p c r = ap (λ x. cond (nothing_lost Sequential c.kind q r.size) r x) (recovered_by_lem p r)

  lost_by : (c : CommandKind) (size : ℕ) → nothing_lost Sequential c q size ≡ is_read c && (is_healthy z.condition && eqb size (written_to z))
  lost_by c size =
      ap (λ t. is_read c && (t && eqb size (written_size q))) (says_healthy w)
      ∙ ap (λ t. is_read c && t) (test_alike z.condition (written_size q) (written_to z) size (written_shown w k))

-- THE TABLE makes of size and access what the invariant wants of a recovered file

size_recovered : (p : ErrorPolicy) (h : Condition) (f last : ℕ) → size_by (grid_rule p h).size f last ≡ size_of p true h (cond (is_healthy h) (cond (is_healthy h) f 0) last)
size_recovered RemountRo Healthy f last = refl
size_recovered RemountRo ReadOnly f last = refl
size_recovered RemountRo Offline f last = refl
size_recovered ZoneRo Healthy f last = refl
size_recovered ZoneRo ReadOnly f last = refl
size_recovered ZoneRo Offline f last = refl
size_recovered ZoneOffline Healthy f last = refl
size_recovered ZoneOffline ReadOnly f last = refl
size_recovered ZoneOffline Offline f last = refl
size_recovered Repair Healthy f last = refl
size_recovered Repair ReadOnly f last = refl
size_recovered Repair Offline f last = refl

access_lowered : (x : Access) → is_none x ≡ false → ruled_access AccessRule.Read x ≡ Access.Read
access_lowered Access.Nothing e = cc
access_lowered Access.Read e = refl
access_lowered Access.Write e = refl

access_kept : (p : ErrorPolicy) → ruled_access (grid_rule p Healthy).access Access.Write ≡ Access.Write → (s : Bool) (c : Condition) → Healthy ≡ c → access_of p s c ≡ Access.Write
access_kept p k false c e = refl
access_kept p k true c e = rw (← e) k

access_recovered : (p : ErrorPolicy) (s : Bool) (c h : Condition) → is_none (access_of p s c) ≡ false → not_better c h ≡ true → ruled_access (grid_rule p h).access (access_of p s c) ≡ access_of p true h
access_recovered RemountRo s c Healthy e n = access_kept RemountRo refl s c (healthy_known c Healthy n refl)
access_recovered RemountRo s c ReadOnly e n = access_lowered (access_of RemountRo s c) e
access_recovered RemountRo s c Offline e n = refl
access_recovered ZoneRo s c Healthy e n = access_lowered (access_of ZoneRo s c) e
access_recovered ZoneRo s c ReadOnly e n = access_lowered (access_of ZoneRo s c) e
access_recovered ZoneRo s c Offline e n = refl
access_recovered ZoneOffline s c Healthy e n = refl
access_recovered ZoneOffline s c ReadOnly e n = refl
access_recovered ZoneOffline s c Offline e n = refl
access_recovered Repair s c Healthy e n = access_kept Repair refl s c (healthy_known c Healthy n refl)
access_recovered Repair s c ReadOnly e n = access_lowered (access_of Repair s c) e
access_recovered Repair s c Offline e n = refl

-- THE LAST SIZE after a failure: the fresh mount's on a healthy zone, else as before

same_test : (r : Bool) (h : Condition) (f last : ℕ) → r && (is_healthy h && eqb last (cond (is_healthy h) f 0)) ≡ r && (is_healthy h && eqb last f)
same_test r Healthy f last = refl
same_test r ReadOnly f last = refl
same_test r Offline f last = refl

last_healthy : (h : Condition) (f last : ℕ) → h ≡ Healthy → cond (is_healthy h) (cond (is_healthy h) f 0) last ≡ f
last_healthy h f last e = cc

last_either : (P : ℕ → Type 0) (h : Condition) (f last : ℕ) → (h ≡ Healthy → P f) → P last → P (cond (is_healthy h) (cond (is_healthy h) f 0) last)
last_either P Healthy f last a b = a refl
last_either P ReadOnly f last a b = b
last_either P Offline f last a b = b

module _ {b : ℕ} {p : ErrorPolicy} {z : DiskZone} {s : FileHistory} {r : Row} (block : IsBlock b) (a : Agrees b p z s r) (l : Live b p z s r) (reads : is_none r.access ≡ false)
    (new : DiskZone) (sound : SoundZone b new) (kind : new.kind ≡ Sequential) (start : new.start ≡ z.start) (capacity : new.capacity ≡ z.capacity) (worse : not_better r.condition new.condition ≡ true)
    {q : Zone} (w : ShowsZone q new) where
  -- the history and the completion ask the same of a failed read
  same_tests : (k : CommandKind) → harmless k new s.last_size ≡ nothing_lost Sequential k q r.size
  same_tests k =
      ap (λ n. is_read k && (is_healthy new.condition && eqb s.last_size n)) (fresh_size_lem new kind)
      ∙ same_test (is_read k) new.condition (written_to new) s.last_size
      ∙ sym (lost_by w kind k s.last_size)
      ∙ ap (λ n. nothing_lost Sequential k q n) (sym (row_last l reads))

  lasts_healthy : new.condition ≡ Healthy → last_size_at true new s.last_size ≡ written_to new
  lasts_healthy h = rw (fresh_size_lem new kind) (last_healthy new.condition (written_to new) s.last_size h)

  lasts_whole : last_size_at true new s.last_size % b ≡ 0
  lasts_whole = rw (fresh_size_lem new kind) (last_either (λ n. n % b ≡ 0) new.condition (written_to new) s.last_size (λ h. whole_size block new new.pointer sound.base (sound.point kind h)) l.whole)

  lasts_fits : last_size_at true new s.last_size ≤ new.capacity * 512
  lasts_fits = rw (fresh_size_lem new kind) (last_either (λ n. n ≤ new.capacity * 512) new.condition (written_to new) s.last_size (λ h. omega (arith, sound.point kind h)) (rw capacity l.fits))

  agrees_new : {t : FileHistory} (x : Row) → x.start ≡ r.start → x.capacity ≡ r.capacity → Live b p new t x → Agrees b p new t x
  agrees_new x e f n = record {
    kind = kind;
    sound = sound;
    inner = rw start a.inner;
    start = e ∙ a.start ∙ sym start;
    capacity = f ∙ a.capacity ∙ ap (λ n. n * 512) (sym capacity);
    state = live n;
  }

  -- what the row and the history are after it, recovered or not
  keeps_by : (k : CommandKind) (t : Bool) → nothing_lost Sequential k q r.size ≡ t
      → Agrees b p new (updated s new true (s.recovered || not t)) (cond t r (recovered_by p new.condition (written_to new) r))
  keeps_by k false e = agrees_new (recovered_by p new.condition (written_to new) r) refl refl (record {
    size = rw (or-true s.recovered, row_last l reads, fresh_size_lem new kind) (size_recovered p new.condition (written_to new) s.last_size);
    access = rw (or-true s.recovered, l.access) (access_recovered p s.recovered r.condition new.condition (rw l.access at reads) worse);
    intact = λ f. cc (or-true s.recovered);
    known = λ q. refl;
    worse = not_better_self new.condition;
    last = λ q h. lasts_healthy h;
    whole = lasts_whole;
    fits = lasts_fits;
    mounted = l.mounted;
  })
  keeps_by k true e =
      let unlost : is_read k && (is_healthy new.condition && eqb r.size (written_to new)) ≡ true = sym (lost_by w kind k r.size) ∙ e in
      let h : is_healthy new.condition ≡ true = search (and_left, and_right) in
      let f : eqb r.size (written_to new) ≡ true = search (and_left, and_right) in
      let healthy = healthy-is _ h in
      let lasts : last_size_at true new s.last_size ≡ r.size = lasts_healthy healthy ∙ sym (eqb-true _ _ f) in
      agrees_new r refl refl (record {
        size = rw (or-false s.recovered, lasts, row_last l reads) (sym (size_last p s.recovered r.condition s.last_size (rw l.access at reads)));
        access = rw (or-false s.recovered) l.access;
        intact = λ f. l.intact (cc (or-false s.recovered));
        known = λ q. healthy_known r.condition new.condition worse healthy;
        worse = worse;
        last = λ q h. lasts_healthy h;
        whole = lasts_whole;
        fits = lasts_fits;
        mounted = l.mounted;
      })

  keeps_ruled : (c : Command) → Agrees b p new (after_failure s c new) (ruled_row Sequential p c q r)
  unfolding after_failure
  keeps_ruled c = rw (same_tests c.kind, failed_by_lem w kind p c r) (keeps_by c.kind (nothing_lost Sequential c.kind q r.size) refl)

  pub keeps_failed : (c : Command) → Agrees b p new (after_failure s c new) (failed_row Sequential p c q r)
  keeps_failed c = by (nothing_lost Sequential c.kind q r.size) (keeps_ruled c)
    where
      by : (t : Bool) {h : FileHistory} → let x = recovered_row p Sequential q r in Agrees b p new h (cond t r x) → Agrees b p new h (cond t r (kept_open c.kind x))
      by true a = a
      by false a = agrees_beside _ _ a
