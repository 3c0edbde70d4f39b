-- What the completion of a ready command does to the words of its table.
-- Assumes nothing.
use Rattle.std.specs.Prelude.{Ok, Err, Some}
use Prim.Native.Nat.{ℕ, ◌<◌}
use mathlib.Core.Path.{◌≡◌, refl}
use mathlib.Core.Bool.{Bool, true, false, cond}
use mathlib.Core.List.{List}
use lib.ListN.{length}
use Rattle.types.specs.declared.Mount.{Mount}
use Rattle.types.specs.declared.Row.{Row}
use Rattle.types.specs.declared.Command.{Command}
use Rattle.types.specs.declared.FileKind.{FileKind}
use Rattle.types.specs.declared.FileKind.TheVariants.{Conventional, Sequential}
use Rattle.types.specs.declared.Refusal.TheVariants as refusal
use Rattle.types.specs.Answers.{Answer}
use Rattle.types.specs.declared.Granted.TheVariants.{Done}
use Rattle.types.specs.Kinds.{of_kind}
use Rattle.table.specs.Rows.{rows_lent, stored, cleared}
use Rattle.table.proofs.Stores.{stored_either}
use Rattle.zones.specs.declared.Zone.{Zone}
use Rattle.recovery.specs.Success.{row_after}
use Rattle.recovery.specs.Fits.{record_fits}
use Rattle.recovery.specs.Recovery.{nothing_lost, recovered_row, kept_open}
use Rattle.held.specs.Held.{hold_of}
use Rattle.held.specs.Facts.{Ready}
use Rattle.held.proofs.Laws.{ready_lent}
use Rattle.types.specs.declared.Effect.{Effect}
use Rattle.completion.specs.Completions.{good, failed, succeeded, failing, recovering, recovered, effect_of}
use Rattle.completion.proofs.Laws.{effect_ready}
use Rattle.consistency.proofs.Bridge.{Became, set_became}
use Rattle.consistency.proofs.Failures.{failed_row}

-- an effect that leaves row n of a table as `new`, and the other table as it was
pub record Completed (c s : List ℕ) (k : FileKind) (n : ℕ) (new : Row) (a : Answer) (d : Effect) : Type 0 where
  pub answer : d.outcome.answer ≡ a
  pub here : Became (of_kind k c s) n new (stored k d.store (of_kind k c s))
  pub other : (j : FileKind) (t : List ℕ) → (k ≡ j → ⊥) → stored j d.store t ≡ t

pub stored_here : (k : FileKind) (n : ℕ) (r : Row) (t : List ℕ) → n < rows_lent (length t) → Became t n r (stored k (Some (k, n, r)) t)
stored_here Conventional n r t h = set_became t n r h
stored_here Sequential n r t h = set_became t n r h

pub stored_other : (k : FileKind) (n : ℕ) (r : Row) (j : FileKind) (t : List ℕ) → (k ≡ j → ⊥) → stored j (Some (k, n, r)) t ≡ t
stored_other k n r j t d = stored_either (λ u. u ≡ t) k n r j t (λ e. absurd (d e)) refl

module _ (m : Mount) (c s : List ℕ) (k : FileKind) (n : ℕ) (d : Command) (r : Row) (w : Ready m c s (hold_of k n d) r) where
  -- a row of the file is stored
  put_so : (a : Answer) (e : Effect) (q : Row) → e.outcome.answer ≡ a → e.store ≡ Some (k, n, q) → Completed c s k n q a e
  put_so a e q answered put = record {
    answer = answered;
    here = rw put (stored_here k n q (of_kind k c s) (ready_lent m c s (hold_of k n d) r w));
    other = λ j t f. rw put (stored_other k n q j t f);
  }

  succeeded_so : Completed c s k n (cleared (row_after k d r)) (Ok (Done d.length)) (succeeded m (hold_of k n d) r)
  unfolding succeeded
  succeeded_so = put_so _ _ _ refl refl

  recovered_so : (z : Zone) → let new = failed_row k m.volume.policy d z r in Completed c s k n (cleared new) (Err (refusal.Failed new.size)) (recovered m (hold_of k n d) r z)
  unfolding recovered
  recovered_so z = by (nothing_lost k d.kind z r.size)
    where
      by : (x : Bool) → let kept = kept_open d.kind (recovered_row m.volume.policy k z r) in let new = cond x r kept in
          Completed c s k n (cleared new) (Err (refusal.Failed new.size)) (cond x (failing m (hold_of k n d) r) (recovering m (hold_of k n d) r kept))
      by true = put_so _ _ _ refl refl
      by false = put_so _ _ _ refl refl

  pub good_completed : Completed c s k n (cleared (row_after k d r)) (Ok (Done d.length)) (effect_of m c s k n good)
  good_completed = rw (effect_ready m c s k n d r good w) succeeded_so

  pub failed-completed : (z : Zone) → record_fits m.volume.block k r z ≡ true
      → let new = failed_row k m.volume.policy d z r in Completed c s k n (cleared new) (Err (refusal.Failed new.size)) (effect_of m c s k n (failed z))
  failed-completed z f = rw (effect_ready m c s k n d r (failed z) w, f) (recovered_so z)
