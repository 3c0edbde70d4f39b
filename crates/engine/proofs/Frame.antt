-- The frame claim, and what stands beside it.
-- Assumes nothing.
use Rattle.std.specs.Prelude.{Ok, Err, Some, None}
use Prim.Native.Nat.{ℕ, ◌/◌}
use native.Mathlib.Omega.{arith}
use mathlib.Core.Path.{◌≡◌, refl, sym, ap, ◌∙◌}
use mathlib.Core.Bool.{false}
use mathlib.Core.List.{List}
use lib.ListN.{get_or}
use Rattle.types.specs.declared.Row.{Row}
use Rattle.types.specs.declared.Mount.{Mount}
use Rattle.types.specs.declared.Held.{Held}
use Rattle.types.specs.declared.FileKind.{FileKind}
use Rattle.types.specs.declared.Refusal.{Refusal}
use Rattle.types.specs.declared.Refusal.TheVariants as refusal
use Rattle.types.specs.Answers.{Answer}
use Rattle.types.specs.declared.Granted.TheVariants.{Done, Issue}
use Rattle.types.specs.declared.Effect.{Effect}
use Rattle.types.specs.Answers.{Store}
use Rattle.types.specs.declared.Call.{Call}
use Rattle.types.specs.Codes.{kind_code, kind_from}
use Rattle.types.specs.Effects.{refusing}
use Rattle.table.specs.Rows.{row_width, row_at, stored}
use Rattle.table.proofs.Laws.{word_outside, row_at_other}
use Rattle.table.proofs.Stores.{stored_either, stored-length, of_stored}
use Rattle.account.specs.Account.{accounted}
use Rattle.account.proofs.Laws.{accounted_mark}
use Rattle.decision.specs.Decision.{counts}
use Rattle.calls.specs.Calls as calls
use Rattle.calls.proofs.Laws as called
use Rattle.zones.specs.declared.Zone.{Zone}
use Rattle.recovery.specs.Fits.{record_fits, misfit}
use Rattle.recovery.specs.Recovery.{nothing_lost, recovered_row, kept_open}
use Rattle.held.specs.Held.{Pending}
use Rattle.held.specs.Held.{pending_of}
use Rattle.completion.specs.Completions.{Completion, good, failed, malformed, succeeded, marked_by, recovered, failing, effect_on, effect_pending}
use Rattle.completion.proofs.Laws.{either}
use Rattle.engine.specs.Engine.{State, Input, call, completion, effect_of, applied, step}
use Rattle.engine.specs.Frame.{kind_in, number_in, Other, table_of, TableKeeps, Frame, CallsKeep, OthersStay}
use Rattle.engine.proofs.Kept.{Spares, Still}
use Rattle.engine.proofs.Laws.{call_by, completion_by_lem, OfFile, effect_names, step_fixes, step_limits}

-- WHAT AN EFFECT KEEPS of the mark, and of everything where it is refused
module _ (s : State) where
  refusing_spares : (x : Refusal) → Spares s (refusing s.mount x)
  refusing_spares x = record { mark = λ e. refl; refused = λ e f. refl }

  settled_spares : (k : FileKind) (n : ℕ) (r : Row) (x : Call) (a : Answer) → (calls.settled s.mount k n r x a).outcome.mount.readonly ≡ s.mount.readonly
      → Spares s (calls.settled s.mount k n r x a)
  settled_spares k n r x (Err y) h = refusing_spares y
  settled_spares k n r x (Ok (Done count)) h = record { mark = λ e. h; refused = λ e f. absurd (e refl) }
  settled_spares k n r x (Ok (Issue c)) h = record { mark = λ e. h; refused = λ e f. absurd (e refl) }

  -- a command that failed
  failing_spares : (m : Mount) (h : Held) (r : Row) → Spares s (failing m h r)
  failing_spares m h r = record { mark = λ e. absurd (e refl); refused = λ e f. absurd (f refl) }

  recovered_spares : (h : Held) (r : Row) (z : Zone) → Spares s (recovered s.mount h r z)
  unfolding recovered
  recovered_spares h r z =
      let p = s.mount.volume.policy in
      let after = kept_open h.command.kind (recovered_row p h.kind z r) in
      either (Spares s) (nothing_lost h.kind h.command.kind z r.size) _ _ (failing_spares s.mount h r) (failing_spares (accounted (marked_by p s.mount) h.kind r after) h after)

  effect_spares : (h : Held) (r : Row) (x : Completion) → Spares s (effect_on s.mount h r x)
  unfolding succeeded
  effect_spares h r good = record { mark = λ e. accounted_mark s.mount h.kind r _; refused = λ e f. absurd (e refl) }
  effect_spares h r (failed z) =
      either (Spares s) (record_fits s.mount.volume.block h.kind r z) _ _ (recovered_spares h r z) (refusing_spares (refusal.BadRecord (misfit s.mount.volume.block h.kind r z)))
  effect_spares h r malformed = refusing_spares (refusal.BadRecord None)

  pending_spares : (p : Pending) (x : Completion) → Spares s (effect_pending s.mount p x)
  pending_spares (Ok (h, r)) x = effect_spares h r x
  pending_spares (Err y) x = refusing_spares y

  input_spares : (x : Input) → Spares s (effect_of s x)
  input_spares (call kind n x) =
      call_by s.mount s.cnv s.seq (Spares s) kind n x
      (λ e. called.call_cases s.mount s.cnv s.seq (kind_from kind) n x (Spares s)
      (λ r w. settled_spares (kind_from kind) n r x (calls.on_row s.mount (kind_from kind) r x) (called.settled_keeps s.mount s.cnv s.seq (kind_from kind) n x r (calls.on_row s.mount (kind_from kind) r x)).1)
      (λ y f. refusing_spares y))
      (refusing_spares _)
  input_spares (completion kind n x) =
      completion_by_lem s.mount s.cnv s.seq (Spares s) kind n x (λ e. pending_spares (pending_of s.mount s.cnv s.seq (kind_from kind) n) x) (refusing_spares _)

-- WHAT A STORE KEEPS of a table
stored-words : (x : Input) (k : FileKind) (d : Store) (t : List ℕ) (j : ℕ) → OfFile (kind_in x) (number_in x) d → Other x k (j / row_width) → get_or (stored k d t) j 0 ≡ get_or t j 0
stored-words x k None t j of other = refl
stored-words x k (Some (f, n, r)) t j (kind, number) other =
    stored_either (λ u. get_or u j 0 ≡ get_or t j 0) f n r k t (λ e. word_outside t n j r (λ q. other (ap kind_code (sym e) ∙ kind) (q ∙ number))) refl

pub stored_rows : (x : Input) (k : FileKind) (d : Store) (t : List ℕ) (n : ℕ) → OfFile (kind_in x) (number_in x) d → Other x k n → row_at (stored k d t) n ≡ row_at t n
stored_rows x k None t n of other = refl
stored_rows x k (Some (f, i, r)) t n (kind, number) other =
    stored_either (λ u. row_at u n ≡ row_at t n) f i r k t (λ e. row_at_other t i n r (λ q. other (ap kind_code (sym e) ∙ kind) (sym q ∙ number))) refl

tables_keep : (s : State) (x : Input) (k : FileKind) → TableKeeps s x (applied s (effect_of s x)) k
tables_keep s x k =
    let d = (effect_of s x).store in
    record {
      length = rw (of_stored k d s.cnv s.seq) (stored-length k d (table_of k s));
      words = λ j other. rw (of_stored k d s.cnv s.seq) (stored-words x k d (table_of k s) j (effect_names s x) other);
    }

-- THE CLAIM
pub frame : Frame
unfolding Frame step
frame s x =
    let w = input_spares s x in
    let limits = step_limits s x in
    record { volume = step_fixes s x; open_limit = limits.0; active_limit = limits.1; mark = w.mark; tables = tables_keep s x; refused = w.refused }

-- A CALL never moves the mark, and the account only by an open or a close.
settled_still : (s : State) (k : FileKind) (n : ℕ) (r : Row) (x : Call) (a : Answer) → counts k x ≡ false → (count : ℕ)
    → Still s count (calls.settled s.mount k n r x a)
settled_still s k n r x (Err y) e count f = refl
settled_still s k n r x (Ok (Done y)) e count f = rw e
settled_still s k n r x (Ok (Issue c)) e count f = let z : ◌≡◌ {A = ℕ} 0 1 = cc in absurd (omega arith)

pub calls_keep : CallsKeep
unfolding CallsKeep step
calls_keep s kind n x =
    record {
      mark = call_by s.mount s.cnv s.seq (λ d. d.outcome.mount.readonly ≡ s.mount.readonly) kind n x (λ e. (called.effect_keeps s.mount s.cnv s.seq (kind_from kind) n x).1) refl;
      mount = λ u. call_by s.mount s.cnv s.seq (λ d. d.outcome.mount ≡ s.mount) kind n x (λ e. called.effect_uncounted s.mount s.cnv s.seq (kind_from kind) n x u) refl;
      at_once = λ u count.
          let P : Effect → Type 0 = λ d. Still s count d in
          call_by s.mount s.cnv s.seq P kind n x
          (λ e. called.call_cases s.mount s.cnv s.seq (kind_from kind) n x P (λ r w. settled_still s (kind_from kind) n r x (calls.on_row s.mount (kind_from kind) r x) u count) (λ y f g. refl))
          (λ g. refl);
    }

-- ANOTHER FILE'S ROW stays.
pub others_stay : OthersStay
unfolding OthersStay step
others_stay s x k n other = let d = (effect_of s x).store in rw (of_stored k d s.cnv s.seq) (stored_rows x k d (table_of k s) n (effect_names s x) other)
