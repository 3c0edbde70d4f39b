-- What a completion does where its checks are passed and where nothing is outstanding; what it stores lies in its table; what the mount fixes stays;
-- and its account stays true.
-- Assumes nothing.
use Rattle.std.specs.Prelude.{Ok, Err, Some, None}
use Prim.Native.Nat.{ℕ}
use mathlib.Core.Path.{◌≡◌, refl, sym, ap}
use mathlib.Core.Bool.{Bool, true, false, cond}
use mathlib.Core.List.{List}
use lib.ListN.{length}
use Rattle.types.specs.declared.Mount.{Mount}
use Rattle.types.specs.declared.Row.{Row}
use Rattle.types.specs.declared.Held.{Held}
use Rattle.types.specs.declared.Effect.{Effect}
use Rattle.types.specs.Effects.{refusing}
use Rattle.types.specs.declared.Refusal.TheVariants as refusal
use Rattle.types.specs.declared.Outstanding.TheVariants.{Idle}
use Rattle.types.specs.declared.FileKind.TheVariants.{Conventional, Sequential}
use Rattle.types.specs.Mounts.{read_only}
use Rattle.types.specs.declared.Command.{Command}
use Rattle.types.specs.declared.FileKind.{FileKind}
use Rattle.types.specs.declared.ErrorPolicy.{ErrorPolicy}
use Rattle.types.specs.declared.ErrorPolicy.TheVariants.{RemountRo, ZoneRo, ZoneOffline, Repair}
use Rattle.table.specs.Facts.{StoreFits}
use Rattle.table.specs.Rows.{stored, cleared}
use Rattle.account.specs.Account.{accounted}
use Rattle.account.specs.Counts.{TrueCounts}
use Rattle.account.specs.Facts.{Room}
use Rattle.account.proofs.Laws.{Fixes, accounted_fixes, Small, accounted_small, active_held, held_stays, uncounted_stays}
use Rattle.checks.specs.Checks.{counts_fit, lookup_of}
use Rattle.checks.specs.Facts.{Reached}
use Rattle.checks.proofs.Laws.{counts_room, reached_lent}
use Rattle.zones.specs.declared.Zone.{Zone}
use Rattle.recovery.specs.Fits.{record_fits}
use Rattle.recovery.specs.Success.{row_after}
use Rattle.recovery.specs.Recovery.{nothing_lost, recovered_row, kept_open}
use Rattle.held.specs.Held.{Pending}
use Rattle.held.specs.Held.{hold_of, pending_of}
use Rattle.held.specs.Facts.{Ready, PendingTells}
use Rattle.held.proofs.Laws.{pending_ready, pending_idle, pending_none, pending_tells, ready_lent}
use Rattle.completion.specs.Completions.{Completion, marked_by, succeeded, failing, recovering, recovered, effect_on, effect_pending, effect_of}

pub either : (P : Effect → Type 0) (t : Bool) (d e : Effect) → P d → P e → P (cond t d e)
either P true d e x y = x
either P false d e x y = y

-- a failure that recovers
pub recovered_otherwise : (m : Mount) (h : Held) (r : Row) (z : Zone) → nothing_lost h.kind h.command.kind z r.size ≡ false
    → recovering m h r (kept_open h.command.kind (recovered_row m.volume.policy h.kind z r)) ≡ recovered m h r z
unfolding recovered
recovered_otherwise m h r z e =
    ap (λ (t : Bool). cond t (failing m h r) (recovering m h r (kept_open h.command.kind (recovered_row m.volume.policy h.kind z r)))) (sym e)

module _ (m : Mount) (cnv seq : List ℕ) (k : FileKind) (i : ℕ) where
  -- a completion of a command that passes the checks
  pub effect_ready : (c : Command) (r : Row) (x : Completion) → Ready m cnv seq (hold_of k i c) r → effect_of m cnv seq k i x ≡ effect_on m (hold_of k i c) r x
  effect_ready c r x w = rw (pending_ready m cnv seq k i c r w)

  -- a completion with nothing outstanding
  pub effect_idle : (r : Row) (x : Completion) → Reached m cnv seq k i r → r.outstanding ≡ Idle
      → effect_of m cnv seq k i x ≡ refusing m refusal.NothingOutstanding
  effect_idle r x w e = rw (pending_idle m cnv seq k i r w e)

  -- a completion of a file that there isn't
  pub effect_none : (x : Completion) → counts_fit m (length cnv) (length seq) ≡ true → lookup_of m.volume cnv seq k i ≡ None
      → effect_of m cnv seq k i x ≡ refusing m refusal.NoFile
  effect_none x h e = rw (pending_none m cnv seq k i h e)

  -- THE ROW that is stored is its file's, which is lent.
  pending_fits : (p : Pending) (x : Completion) → PendingTells m cnv seq k i p → StoreFits cnv seq (effect_pending m p x).store
  unfolding succeeded recovered
  pending_fits (Err y) x w = tt
  pending_fits (Ok (h, r)) Completion.good (w, named) = ready_lent m cnv seq h r w
  pending_fits (Ok (h, r)) (Completion.failed z) (w, named) =
      let P : Effect → Type 0 = λ d. StoreFits cnv seq d.store in
      let lent = ready_lent m cnv seq h r w in
      either P (record_fits m.volume.block h.kind r z) _ _ (either P (nothing_lost h.kind h.command.kind z r.size) _ _ lent lent) tt
  pending_fits (Ok (h, r)) Completion.malformed w = tt

  pub effect_fits : (x : Completion) → StoreFits cnv seq (effect_of m cnv seq k i x).store
  effect_fits x = pending_fits (pending_of m cnv seq k i) x (pending_tells m cnv seq k i)

-- WHAT THE MOUNT FIXES stays, whatever the disk tells, and so do the account's limits.
-- with the mark that a recovery sets
pub marked_fixes : (p : ErrorPolicy) (m : Mount) (k : FileKind) (r r' : Row) → Fixes m (accounted (marked_by p m) k r r')
marked_fixes RemountRo m k r r' = accounted_fixes (read_only m) k r r'
marked_fixes ZoneRo m k r r' = accounted_fixes m k r r'
marked_fixes ZoneOffline m k r r' = accounted_fixes m k r r'
marked_fixes Repair m k r r' = accounted_fixes m k r r'

pending_fixes : (m : Mount) (p : Pending) (x : Completion) → Fixes m (effect_pending m p x).outcome.mount
unfolding succeeded recovered
pending_fixes m (Err y) x = (refl, (refl, refl))
pending_fixes m (Ok (h, r)) Completion.good = accounted_fixes m h.kind r (row_after h.kind h.command r)
pending_fixes m (Ok (h, r)) (Completion.failed z) =
    let P : Effect → Type 0 = λ d. Fixes m d.outcome.mount in
    either P (record_fits m.volume.block h.kind r z) _ _
    (either P (nothing_lost h.kind h.command.kind z r.size) _ _ (refl, (refl, refl)) (marked_fixes m.volume.policy m h.kind r _))
    (refl, (refl, refl))
pending_fixes m (Ok (h, r)) Completion.malformed = (refl, (refl, refl))

pub effect_fixes : (m : Mount) (cnv seq : List ℕ) (k : FileKind) (i : ℕ) (x : Completion) → Fixes m (effect_of m cnv seq k i x).outcome.mount
effect_fixes m cnv seq k i x = pending_fixes m (pending_of m cnv seq k i) x

-- a mark moves nothing in the account
pub marked_room : (p : ErrorPolicy) (m : Mount) → Room m.account → Room (marked_by p m).account
marked_room RemountRo m w = w
marked_room ZoneRo m w = w
marked_room ZoneOffline m w = w
marked_room Repair m w = w

-- its counts stay numbers of 32 bits
marked_small : (p : ErrorPolicy) (m : Mount) (k : FileKind) (r r' : Row) → Room m.account → Small (accounted (marked_by p m) k r r').account
marked_small p m k r r' w = accounted_small (marked_by p m) k r r' (marked_room p m w)

pending_small : (m : Mount) (cnv seq : List ℕ) (k : FileKind) (i : ℕ) (p : Pending) (x : Completion) → PendingTells m cnv seq k i p → Small m.account
    → Small (effect_pending m p x).outcome.mount.account
unfolding succeeded recovered
pending_small m cnv seq k i (Err y) x w t = t
pending_small m cnv seq k i (Ok (h, r)) Completion.good (w, named) t =
    accounted_small m h.kind r (row_after h.kind h.command r) (counts_room m (length cnv) (length seq) w.reached.counts)
pending_small m cnv seq k i (Ok (h, r)) (Completion.failed z) (w, named) t =
    let P : Effect → Type 0 = λ d. Small d.outcome.mount.account in
    either P (record_fits m.volume.block h.kind r z) _ _
    (either P (nothing_lost h.kind h.command.kind z r.size) _ _ t (marked_small m.volume.policy m h.kind r _ (counts_room m (length cnv) (length seq) w.reached.counts)))
    t
pending_small m cnv seq k i (Ok (h, r)) Completion.malformed w t = t

pub effect_small : (m : Mount) (cnv seq : List ℕ) (k : FileKind) (i : ℕ) (x : Completion) → Small m.account → Small (effect_of m cnv seq k i x).outcome.mount.account
effect_small m cnv seq k i x t = pending_small m cnv seq k i (pending_of m cnv seq k i) x (pending_tells m cnv seq k i) t

-- THE ACCOUNT stays true.
marked_true : (p : ErrorPolicy) (m : Mount) (seq : List ℕ) → TrueCounts m seq → TrueCounts (marked_by p m) seq
marked_true RemountRo m seq w = record { opened = w.opened; active = w.active }
marked_true ZoneRo m seq w = w
marked_true ZoneOffline m seq w = w
marked_true Repair m seq w = w

marked_files : (p : ErrorPolicy) (m : Mount) → (marked_by p m).volume.sequential ≡ m.volume.sequential
marked_files RemountRo m = refl
marked_files ZoneRo m = refl
marked_files ZoneOffline m = refl
marked_files Repair m = refl

module _ (m : Mount) (cnv seq : List ℕ) where
  -- of a row that is stored with nothing outstanding, on a mount with the same counts
  cleared_stays : (n : Mount) (k : FileKind) (i : ℕ) (r r' : Row) → n.volume.sequential ≡ m.volume.sequential → TrueCounts n seq → Reached m cnv seq k i r
      → TrueCounts (accounted n k r r') (stored Sequential (Some (k, i, cleared r')) seq)
  cleared_stays n Conventional i r r' e h w = h
  cleared_stays n Sequential i r r' e h w = held_stays n seq h i r (rw e w.number) w.row r' Idle (reached_lent m cnv seq Sequential i r w)

  unchanged_stays : (k : FileKind) (i : ℕ) (r : Row) → TrueCounts m seq → Reached m cnv seq k i r → TrueCounts m (stored Sequential (Some (k, i, cleared r)) seq)
  unchanged_stays Conventional i r h w = h
  unchanged_stays Sequential i r h w =
      uncounted_stays m seq h i r w.number w.row (cleared r) refl (active_held m.volume.explicit r Idle) (reached_lent m cnv seq Sequential i r w)

  abbrev pub Stays : Effect → Type 0
  Stays d = TrueCounts m seq → TrueCounts d.outcome.mount (stored Sequential d.store seq)

  pending_stays : (k : FileKind) (i : ℕ) (p : Pending) (x : Completion) → PendingTells m cnv seq k i p → Stays (effect_pending m p x)
  unfolding succeeded recovered
  pending_stays k i (Err y) x w = λ t. t
  pending_stays k i (Ok (h, r)) Completion.good (w, named) = λ t. cleared_stays m h.kind h.number r (row_after h.kind h.command r) refl t w.reached
  pending_stays k i (Ok (h, r)) (Completion.failed z) (w, named) =
      either Stays (record_fits m.volume.block h.kind r z) _ _
      (either Stays (nothing_lost h.kind h.command.kind z r.size) _ _
      (λ t. unchanged_stays h.kind h.number r t w.reached)
      (λ t.
      cleared_stays (marked_by m.volume.policy m) h.kind h.number r (kept_open h.command.kind (recovered_row m.volume.policy h.kind z r))
      (marked_files m.volume.policy m) (marked_true m.volume.policy m seq t) w.reached))
      (λ t. t)
  pending_stays k i (Ok (h, r)) Completion.malformed w = λ t. t

  pub effect_stays : (k : FileKind) (i : ℕ) (x : Completion) → Stays (effect_of m cnv seq k i x)
  effect_stays k i x = pending_stays k i (pending_of m cnv seq k i) x (pending_tells m cnv seq k i)
