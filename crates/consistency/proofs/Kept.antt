-- What is possible stays possible over each call and each completion.
-- Assumes nothing.
use Rattle.std.specs.Prelude.{Ok, Err, Some, None}
use Prim.Native.Nat.{ℕ, ◌≤◌, ◌<◌}
use native.Mathlib.Omega.{arith}
use mathlib.Core.Path.{◌≡◌, refl, sym, ap, ◌∙◌, subst}
use mathlib.Core.Bool.{Bool, true, false, cond, false≢true}
use mathlib.Core.List.{List}
use lib.ListN.{length}
use Rattle.types.specs.declared.Volume.{Volume}
use Rattle.types.specs.declared.Mount.{Mount}
use Rattle.types.specs.declared.Row.{Row}
use Rattle.types.specs.declared.Held.{Held}
use Rattle.types.specs.declared.FileKind.{FileKind}
use Rattle.types.specs.declared.FileKind.TheVariants.{Conventional, Sequential}
use Rattle.types.specs.declared.Call.{Call}
use Rattle.types.specs.declared.Command.{Command}
use Rattle.types.specs.declared.Refusal.TheVariants as refusal
use Rattle.types.specs.declared.Access.{Access}
use Rattle.types.specs.declared.Access.TheVariants as access
use Rattle.types.specs.Answers.{Verdict}
use Rattle.types.specs.Answers.{Answer}
use Rattle.types.specs.declared.Granted.TheVariants.{Done, Issue}
use Rattle.types.specs.declared.Effect.{Effect}
use Rattle.types.specs.Answers.{Store}
use Rattle.types.specs.declared.Outstanding.{Outstanding}
use Rattle.types.specs.declared.Outstanding.TheVariants.{Idle, Busy}
use Rattle.types.specs.Codes.{kind_from}
use Rattle.types.specs.Effects.{refusing}
use Rattle.types.specs.Kinds.{of_kind, files_of}
use Rattle.types.specs.Blocks.{most_files}
use Rattle.types.specs.Verdicts.{answer_after}
use Rattle.types.proofs.PredicateLaws.{idle_is}
use Rattle.types.proofs.VerdictLaws.{check_passed}
use Rattle.types.proofs.Blocks.{IsBlock, is_block}
use Rattle.table.specs.Rows.{Slot}
use Rattle.table.specs.Rows.{rows_lent, row_at, stored, with_outstanding, cleared}
use Rattle.table.proofs.Stores.{stored-length, stored_row, of_stored}
use Rattle.zones.specs.declared.Zone.{Zone}
use Rattle.account.specs.Account.{accounted, counted}
use Rattle.account.specs.Counts.{TrueCounts}
use Rattle.account.proofs.Laws.{true_fits, true_counts}
use Rattle.checks.specs.Checks.{counts_fit, sound_row}
use Rattle.checks.specs.Facts.{SoundRow, Reached}
use Rattle.checks.proofs.Laws.{counts_good, counts-lent, counts_most, counts_in, row_sound, sound_openable, reached_lent, reached_sound}
use Rattle.decision.specs.Decision.{unwritable, open_row, answer_on, dispatched, counts, opens_after, called, limited}
use Rattle.decision.proofs.Laws.{open_checked, dispatch_passed}
use Rattle.calls.specs.Calls as calls
use Rattle.calls.proofs.Laws.{call_cases, row_passed, effect_keeps, effect_stays}
use Rattle.held.specs.Held.{Pending}
use Rattle.held.specs.Held.{hold_of, pending_of}
use Rattle.held.specs.Facts.{Ready, PendingTells}
use Rattle.held.proofs.Issuable.{issuable-complete, issuable_held}
use Rattle.held.proofs.Issued.{Issued, issuable_tells}
use Rattle.held.proofs.Laws.{pending_tells}
use Rattle.recovery.specs.Success.{row_after}
use Rattle.recovery.specs.Fits.{record_fits, misfit}
use Rattle.recovery.specs.Recovery.{nothing_lost, recovered_row, kept_open}
use Rattle.completion.specs.Completions.{Completion, good, failed, malformed, succeeded, recovered, failing, recovering, effect_on, effect_pending}
use Rattle.completion.specs.Completions as completions
use Rattle.completion.proofs.Laws as completed
use Rattle.engine.specs.Engine.{State, Input, call, completion, effect_of, applied}
use Rattle.engine.proofs.Laws.{call_by, completion_by_lem}
use Rattle.consistency.proofs.SoundRows.{sound_opens, success_sound, recovered_sound}
use Rattle.consistency.specs.Possible.{IsFile, HeldPossible, Possible}

-- A FILE passes 10 (counts), 1 and 10 (row).
file_counted : {s : State} → Possible s → (k : FileKind) (n : ℕ) (r : Row) → IsFile s k n → row_at (of_kind k s.cnv s.seq) n ≡ Ok r → counted s.mount k r ≡ true
unfolding counted
file_counted p Conventional n r h e = refl
file_counted {s} p Sequential n r h e = true_counts s.mount s.seq p.account n r h e

pub possible_call : {s : State} → Possible s → (k : FileKind) (n : ℕ) → IsFile s k n → (r : Row) × Reached s.mount s.cnv s.seq k n r
possible_call p k n h =
    let w = p.rows k n h in
    (w.row, record { counts = p.counts; number = omega (arith, h); row = w.reads; sound = w.sound; counted = file_counted p k n w.row h w.reads })

-- a row that was reached holds nothing that it can't
pub held_reached : {s : State} → Possible s → (k : FileKind) (n : ℕ) (r : Row) → Reached s.mount s.cnv s.seq k n r
    → HeldPossible s.mount.volume k r r.outstanding
held_reached {s} p k n r w =
    let q = p.rows k n w.number in
    let g : Ok q.row ≡ Ok r = sym q.reads ∙ w.row in
    let same : q.row ≡ r = cc in
    subst (λ (x : Row). HeldPossible s.mount.volume k x x.outstanding) same q.held

-- so what is outstanding on it is ready for its completion
pub possible_ready : {s : State} → Possible s → (k : FileKind) (n : ℕ) (c : Command) (r : Row) → Reached s.mount s.cnv s.seq k n r
    → r.outstanding ≡ Busy c → Ready s.mount s.cnv s.seq (hold_of k n c) r
possible_ready {s} p k n c r w e =
    record { held = e; reached = w; issued = subst (λ (o : Outstanding). HeldPossible s.mount.volume k r o) e (held_reached p k n r w) }

-- AN ANSWER THAT IS NO REFUSAL: its checks were passed
abbrev Taken : Answer → Type 0
Taken (Err y) = ⊥
Taken (Ok (Done count)) = Unit
Taken (Ok (Issue c)) = Unit

after_taken : (v : Verdict) (a : Answer) → Taken (answer_after v a) → (v ≡ Ok tt) × Taken a
unfolding answer_after
after_taken (Ok tt) a t = (refl, t)
after_taken (Err y) a t = absurd t

limited_taken : (v : Verdict) (a : Answer) → Taken (limited v a) → Taken a
unfolding limited
limited_taken v (Err y) t = t
limited_taken v (Ok (Done count)) t = tt
limited_taken v (Ok (Issue c)) t = tt

row_taken : (m : Mount) (k : FileKind) (r : Row) (x : Call) → Taken (calls.on_row m k r x) → (r.outstanding ≡ Idle) × Taken (answer_on m.volume.explicit m.volume.block k r x)
unfolding dispatched
row_taken m k r x t =
    let (free, rest) = after_taken _ _ t in
    let (mark, on) = after_taken _ _ (limited_taken _ _ rest) in
    (idle_is r.outstanding (check_passed _ free).0, on)

-- opens only with write access: an open asks for it, and a close leaves fewer
writable : (a : Access) → unwritable a ≡ false → a ≡ access.Write
writable access.Nothing e = absurd (false≢true (sym e))
writable access.Read e = absurd (false≢true (sym e))
writable access.Write e = refl

called-openable : (explicit : Bool) (block : ℕ) (k : FileKind) (r : Row) (x : Call) → (0 < r.opens → r.access ≡ access.Write) → Taken (answer_on explicit block k r x)
    → 0 < opens_after k x r.opens → r.access ≡ access.Write
unfolding open_row
called-openable explicit block k r (Call.Read o l) sure t h = sure h
called-openable explicit block k r (Call.Write o l) sure t h = sure h
called-openable explicit block k r (Call.Truncate z) sure t h = sure h
called-openable explicit block k r Call.Flush sure t h = sure h
called-openable explicit block Conventional r Call.Open sure t h = sure h
called-openable explicit block Sequential r Call.Open sure t h = writable r.access (open_checked r (after_taken _ _ t).0).0
called-openable explicit block Conventional r Call.Close sure t h = sure h
called-openable explicit block Sequential r Call.Close sure t h = let some : 0 < r.opens = omega arith in sure some

-- a call that is answered at once, and counts or doesn't
abbrev pub answering : Mount → FileKind → ℕ → Row → Call → ℕ → Bool → Effect
answering m k n r x count t = record {
  outcome = record { answer = Ok (Done count); mount = cond t (accounted m k r (called k x r)) m };
  store = cond t (Some (k, n, called k x r)) None;
}

-- WHAT IS OUTSTANDING makes no row unsound.
held_sound : (block : ℕ) (k : FileKind) (r : Row) (o : Outstanding) → sound_row block k (with_outstanding r o) ≡ sound_row block k r
unfolding sound_row
held_sound block k r o = refl

-- THE STATE after an effect. What is stored is a possible row of a file.
abbrev Fine : Volume → FileKind → Row → Type 0
Fine v k r = (sound_row v.block k r ≡ true) × HeldPossible v k r r.outstanding

abbrev FineStore : Volume → Store → Type 0
FineStore v None = Unit
FineStore v (Some (k, i, r)) = (i < files_of k v) × Fine v k r

-- a file's words are a possible row
abbrev Rowed : Volume → FileKind → Slot → Type 0
Rowed v k x = (r : Row) × ((x ≡ Ok r) × Fine v k r)

module _ {s : State} (p : Possible s) where
  fine_row : (k : FileKind) (n : ℕ) → IsFile s k n → Rowed s.mount.volume k (row_at (of_kind k s.cnv s.seq) n)
  fine_row k n h = let w = p.rows k n h in (w.row, (w.reads, (w.sound, w.held)))

  lent : (j k : FileKind) (i : ℕ) → i < files_of j s.mount.volume → j ≡ k → i < rows_lent (length (of_kind k s.cnv s.seq))
  lent j k i known e =
      let (r, w) = possible_call p k i (subst (λ y. i < files_of y s.mount.volume) e known) in reached_lent s.mount s.cnv s.seq k i r w

  fine_stored : (x : Store) → FineStore s.mount.volume x → (k : FileKind) (n : ℕ) → IsFile s k n
      → Rowed s.mount.volume k (row_at (stored k x (of_kind k s.cnv s.seq)) n)
  fine_stored None w k n h = fine_row k n h
  fine_stored (Some (j, i, r)) (known, fine) k n h =
      let v = s.mount.volume in
      stored_row (Rowed v k) j i r k n (of_kind k s.cnv s.seq) (lent j k i known)
      (λ e q. (r, (refl, subst (λ y. Fine v y r) e fine))) (fine_row k n h)

  -- what an effect leaves of the mount: what it fixes, and an account that is true
  record Kept (d : Effect) : Type 0 where
    volume : d.outcome.mount.volume ≡ s.mount.volume
    account : TrueCounts d.outcome.mount (stored Sequential d.store s.seq)

  counts_again : (m : Mount) (t : List ℕ) → m.volume ≡ s.mount.volume → TrueCounts m t → counts_fit m (length s.cnv) (length s.seq) ≡ true
  counts_again m t e account =
      let c = length s.cnv in
      let q = length s.seq in
      counts_in m c q (λ k. subst (λ (v : Volume). files_of k v ≤ rows_lent (of_kind k c q)) (sym e) (counts-lent s.mount c q p.counts k))
      (λ k. subst (λ (v : Volume). files_of k v ≤ most_files) (sym e) (counts_most s.mount c q p.counts k)) (rw e (counts_good s.mount c q p.counts)) (true_fits m t account)

  -- and a possible row is stored
  settled-possible : (d : Effect) → Kept d → FineStore s.mount.volume d.store → Possible (applied s d)
  settled-possible d kept w =
      let x = d.store in
      let e = kept.volume in
      record {
        counts = rw (stored-length Conventional x s.cnv, stored-length Sequential x s.seq) (counts_again d.outcome.mount _ e kept.account);
        account = kept.account;
        rows = λ k n h.
            let (r, (a, (b, c))) = fine_stored x w k n (subst (λ (u : Volume). n < files_of k u) e h) in
            record { row = r; reads = ap (λ (t : List ℕ). row_at t n) (of_stored k x s.cnv s.seq) ∙ a; sound = rw e b; held = rw e c };
      }

  -- A CALL. What it issues is held, and a completion finds it possible.
  module _ (k : FileKind) (n : ℕ) (x : Call) (r : Row) (w : Reached s.mount s.cnv s.seq k n r) where
    abbrev v : Volume
    v = s.mount.volume

    -- the row that it leaves, with this outstanding
    called_fine : (o : Outstanding) → Taken (calls.on_row s.mount k r x) → HeldPossible v k (with_outstanding (called k x r) o) o → FineStore v (Some (k, n, with_outstanding (called k x r) o))
    called_fine o t h =
        let s1 = reached_sound s.mount s.cnv s.seq k n r w in
        let s2 = sound_opens s1 (opens_after k x r.opens) (called-openable v.explicit v.block k r x s1.openable (row_taken s.mount k r x t).1) in
        (w.number, (held_sound v.block k (called k x r) o ∙ row_sound v.block k (called k x r) s2, h))

    row_possible : (a : Answer) → calls.on_row s.mount k r x ≡ a → Kept (calls.settled s.mount k n r x a) → Possible (applied s (calls.settled s.mount k n r x a))
    row_possible (Err y) e kept = p
    row_possible (Ok (Done count)) e kept = by (counts k x) kept
      where
        answered : Taken (calls.on_row s.mount k r x)
        answered = subst Taken (sym e) tt

        idle : HeldPossible v k (called k x r) r.outstanding
        idle = subst (HeldPossible v k (called k x r)) (sym (row_taken s.mount k r x answered).0) tt

        by : (t : Bool) → Kept (answering s.mount k n r x count t) → Possible (applied s (answering s.mount k n r x count t))
        by true kept = settled-possible _ kept (called_fine r.outstanding answered idle)
        by false kept = p
    row_possible (Ok (Issue c)) e kept =
        let (idle, (within, g)) = row_passed s.mount s.cnv s.seq k n x r c e in
        let (mark, issued) = dispatch_passed s.mount.readonly v.explicit v.block k r x c g in
        let sure = sound_openable v.block k r w.sound in
        settled-possible _ kept
        (called_fine (Busy c) (subst Taken (sym e) tt)
        (issuable_held v.explicit v.block k (called k x r) (Busy c) c ∙ issuable-complete v.explicit v.block k r x c sure issued))

  pub call_possible : (k : FileKind) (n : ℕ) (x : Call) → Possible (applied s (calls.effect_of s.mount s.cnv s.seq k n x))
  call_possible k n x =
      call_cases s.mount s.cnv s.seq k n x (λ d. Kept d → Possible (applied s d)) (λ r w. row_possible k n x r w (calls.on_row s.mount k r x) refl) (λ y f kept. p)
      (record { volume = (effect_keeps s.mount s.cnv s.seq k n x).0.0; account = effect_stays s.mount s.cnv s.seq k n x p.account })

  -- A COMPLETION. Its command is cleared, and its row stays sound.
  module _ (h : Held) (r : Row) (w : Ready s.mount s.cnv s.seq h r) where
    abbrev block : ℕ
    block = s.mount.volume.block

    on_block_lem : IsBlock block
    on_block_lem = is_block block (counts_good s.mount (length s.cnv) (length s.seq) p.counts)

    sound : SoundRow block h.kind r
    sound = reached_sound s.mount s.cnv s.seq h.kind h.number r w.reached

    issue : Issued block h.kind r h.command
    issue = issuable_tells s.mount.volume.explicit block h.kind r h.command w.issued

    cleared_fine : (q : Row) → SoundRow block h.kind q → FineStore s.mount.volume (Some (h.kind, h.number, cleared q))
    cleared_fine q u = (w.reached.number, (held_sound block h.kind q Idle ∙ row_sound block h.kind q u, tt))

    done-possible : Kept (succeeded s.mount h r) → Possible (applied s (succeeded s.mount h r))
    unfolding succeeded
    done-possible kept = settled-possible _ kept (cleared_fine (row_after h.kind h.command r) (success_sound h.kind on_block_lem sound issue))

    recovered-possible : (z : Zone) → record_fits block h.kind r z ≡ true → Kept (recovered s.mount h r z) → Possible (applied s (recovered s.mount h r z))
    unfolding recovered
    recovered-possible z fits kept = by (nothing_lost h.kind h.command.kind z r.size) kept
      where
        by : (t : Bool) → let d = cond t (failing s.mount h r) (recovering s.mount h r (kept_open h.command.kind (recovered_row s.mount.volume.policy h.kind z r))) in
            Kept d → Possible (applied s d)
        by true kept = settled-possible _ kept (cleared_fine r sound)
        by false kept =
            settled-possible _ kept
            (cleared_fine (kept_open h.command.kind (recovered_row s.mount.volume.policy h.kind z r))
            (recovered_sound z sound issue.readable s.mount.volume.policy on_block_lem fits h.command.kind))

    effect_possible : (x : Completion) → Kept (effect_on s.mount h r x) → Possible (applied s (effect_on s.mount h r x))
    effect_possible good kept = done-possible kept
    effect_possible (failed z) kept = by (record_fits block h.kind r z) refl kept
      where
        by : (t : Bool) → record_fits block h.kind r z ≡ t → let d = cond t (recovered s.mount h r z) (refusing s.mount (refusal.BadRecord (misfit block h.kind r z))) in
            Kept d → Possible (applied s d)
        by true e kept = recovered-possible z e kept
        by false e kept = p
    effect_possible malformed kept = p

  pub completion_possible : (k : FileKind) (n : ℕ) (x : Completion) → Possible (applied s (completions.effect_of s.mount s.cnv s.seq k n x))
  completion_possible k n x =
      by (pending_of s.mount s.cnv s.seq k n) (pending_tells s.mount s.cnv s.seq k n)
      (record {
        volume = (completed.effect_fixes s.mount s.cnv s.seq k n x).0;
        account = completed.effect_stays s.mount s.cnv s.seq k n x p.account;
      })
    where
      by : (q : Pending) → PendingTells s.mount s.cnv s.seq k n q → Kept (effect_pending s.mount q x) → Possible (applied s (effect_pending s.mount q x))
      by (Ok (h, r)) (w, named) kept = effect_possible h r w x kept
      by (Err y) w kept = p

  pub input_possible : (x : Input) → Possible (applied s (effect_of s x))
  input_possible (call kind n x) = call_by s.mount s.cnv s.seq (λ d. Possible (applied s d)) kind n x (λ e. call_possible (kind_from kind) n x) p
  input_possible (completion kind n x) = completion_by_lem s.mount s.cnv s.seq (λ d. Possible (applied s d)) kind n x (λ e. completion_possible (kind_from kind) n x) p
