-- What the checks of a completion tell: a law out of them and a law into them. Whoever uses these opens none of the checks.
-- Assumes nothing.
use Rattle.std.specs.Prelude.{Ok, Err, Some, None}
use Prim.Native.Nat.{ℕ, ◌<◌}
use native.Mathlib.Omega.{arith}
use mathlib.Core.Path.{◌≡◌, refl, ◌∙◌}
use mathlib.Core.Bool.{Bool, true, false, cond, ◌&&◌}
use mathlib.Core.List.{List}
use lib.ListN.{length}
use borrow.Author.Tests.{lt-ltb}
use Rattle.types.specs.declared.Mount.{Mount}
use Rattle.types.specs.declared.Row.{Row}
use Rattle.types.specs.declared.Held.{Held}
use Rattle.types.specs.declared.Command.{Command}
use Rattle.types.specs.declared.FileKind.{FileKind}
use Rattle.types.specs.declared.Refusal.TheVariants as refusal
use Rattle.types.specs.declared.Outstanding.{Outstanding}
use Rattle.types.specs.declared.Outstanding.TheVariants.{Idle, Busy, Unknown}
use Rattle.types.specs.Kinds.{of_kind, files_of}
use Rattle.table.specs.Rows.{Slot}
use Rattle.table.specs.Rows.{rows_lent, outstanding_in, row_at}
use Rattle.account.specs.Account.{counted}
use Rattle.checks.specs.Checks.{Lookup}
use Rattle.checks.specs.Checks.{counts_fit, lookup_of, sound_row, sound_slot, file_of}
use Rattle.checks.specs.Facts.{Reached}
use Rattle.checks.proofs.Laws.{file_found, file_reached, reached_lent, reached_sound, counts_good, counts_room}
use Rattle.held.specs.Held.{Pending}
use Rattle.held.specs.Held.{issuable_on, held_on, hold_of, pending_by, pending_in, pending_of}
use Rattle.held.specs.Facts.{Ready, PendingTells, PendingSafe}
use Rattle.held.proofs.Commands.{issuable_in}

module _ (m : Mount) (cnv seq : List ℕ) (k : FileKind) (i : ℕ) where
  pub pending_tells : PendingTells m cnv seq k i (pending_of m cnv seq k i)
  unfolding pending_of
  pending_tells = counting (counts_fit m (length cnv) (length seq)) refl
    where
      issued : (c : Command) (r : Row) (t : Bool) → issuable_on m (hold_of k i c) r ≡ t → r.outstanding ≡ Busy c → Reached m cnv seq k i r
          → PendingTells m cnv seq k i (cond t (Ok (hold_of k i c, r)) (Err refusal.Impossible))
      issued c r true e b w = (record { held = b; reached = w; issued = e }, (refl, refl))
      issued c r false e b w = tt

      sounded : (c : Command) (r : Row) (t : Bool) → sound_row m.volume.block k r && counted m k r ≡ t → file_of m cnv seq k i ≡ cond t (Ok r) (Err refusal.Impossible)
          → r.outstanding ≡ Busy c → PendingTells m cnv seq k i (held_on m (hold_of k i c) (cond t (Ok r) (Err refusal.Impossible)))
      sounded c r true d e b = issued c r (issuable_on m (hold_of k i c) r) refl b (file_reached m cnv seq k i r e)
      sounded c r false d e b = tt

      slotted : (x : Slot) (o : Outstanding) → outstanding_in x ≡ o → file_of m cnv seq k i ≡ sound_slot m k x
          → PendingTells m cnv seq k i (pending_by m k i (sound_slot m k x) o)
      slotted x Idle b e = tt
      slotted (Ok r) (Busy c) b e = sounded c r (sound_row m.volume.block k r && counted m k r) refl e b
      slotted (Err o) (Busy c) b e = tt
      slotted x Unknown b e = tt

      found : (x : Lookup) → lookup_of m.volume cnv seq k i ≡ x → counts_fit m (length cnv) (length seq) ≡ true → PendingTells m cnv seq k i (pending_in m k i x)
      found (Some x) e h = slotted x (outstanding_in x) refl (file_found m cnv seq k i h e)
      found None e h = tt

      counting : (t : Bool) → counts_fit m (length cnv) (length seq) ≡ t
          → PendingTells m cnv seq k i (cond t (pending_in m k i (lookup_of m.volume cnv seq k i)) (Err refusal.Impossible))
      counting true h = found (lookup_of m.volume cnv seq k i) refl h
      counting false h = tt

  pub pending_none : counts_fit m (length cnv) (length seq) ≡ true → lookup_of m.volume cnv seq k i ≡ None → pending_of m cnv seq k i ≡ Err refusal.NoFile
  unfolding pending_of
  pending_none h e = rw (h, e)

  -- past the counts and 1, it is as the file's words say
  pub pending_found : {x : Slot} → counts_fit m (length cnv) (length seq) ≡ true → i < files_of k m.volume → row_at (of_kind k cnv seq) i ≡ x
      → pending_of m cnv seq k i ≡ pending_by m k i (sound_slot m k x) (outstanding_in x)
  unfolding pending_of lookup_of
  pending_found h l e = simp (h, lt-ltb i (files_of k m.volume) l, e)

  pub pending_reached : (r : Row) → Reached m cnv seq k i r → pending_of m cnv seq k i ≡ pending_by m k i (Ok r) r.outstanding
  pending_reached r w = pending_found w.counts w.number w.row ∙ simp (w.sound, w.counted)

  pub pending_ready : (c : Command) (r : Row) → Ready m cnv seq (hold_of k i c) r → pending_of m cnv seq k i ≡ Ok (hold_of k i c, r)
  pending_ready c r w = pending_reached r w.reached ∙ simp (w.held, w.issued)

  pub pending_idle : (r : Row) → Reached m cnv seq k i r → r.outstanding ≡ Idle → pending_of m cnv seq k i ≡ Err refusal.NothingOutstanding
  pending_idle r w e = pending_reached r w ∙ rw e

-- the row is one of its table's
pub ready_lent : (m : Mount) (cnv seq : List ℕ) (h : Held) (r : Row) → Ready m cnv seq h r → h.number < rows_lent (length (of_kind h.kind cnv seq))
ready_lent m cnv seq h r w = reached_lent m cnv seq h.kind h.number r w.reached

-- no sum on it wraps
pub pending_safe : (m : Mount) (cnv seq : List ℕ) (k : FileKind) (i : ℕ) (p : Pending) → PendingTells m cnv seq k i p → PendingSafe m p
pending_safe m cnv seq k i (Err x) w = tt
pending_safe m cnv seq k i (Ok (h, r)) (w, named) =
    let s = reached_sound m cnv seq h.kind h.number r w.reached in
    let at = issuable_in m.volume.explicit m.volume.block h.kind r h.command w.issued in
    record {
      block = counts_good m (length cnv) (length seq) w.reached.counts;
      room = counts_room m (length cnv) (length seq) w.reached.counts;
      ends = s.ends;
      grows = omega (arith, s.ends, s.within, at.low, at.high);
    }
