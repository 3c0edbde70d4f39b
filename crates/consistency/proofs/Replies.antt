-- Past 10 (counts), 1 and 10 (row) no call is answered 1 or 10; and from what is possible every file gets there, and no completion is answered 10.
-- Assumes nothing.
use Rattle.std.specs.Prelude.{Ok, Err, Some, None}
use Prim.Native.Nat.{ℕ}
use native.Mathlib.Omega.{arith}
use mathlib.Core.Path.{◌≡◌, refl, subst}
use mathlib.Core.Logic.{◌≢◌}
use mathlib.Core.Bool.{Bool, true, false, cond}
use Rattle.types.specs.declared.Account.{Account}
use Rattle.types.specs.declared.Mount.{Mount}
use Rattle.types.specs.declared.Row.{Row}
use Rattle.types.specs.declared.Held.{Held}
use Rattle.types.specs.declared.FileKind.{FileKind}
use Rattle.types.specs.declared.FileKind.TheVariants.{Conventional, Sequential}
use Rattle.types.specs.declared.Refusal.{Refusal}
use Rattle.types.specs.declared.Refusal.TheVariants as refusal
use Rattle.types.specs.Answers.{Verdict}
use Rattle.types.specs.Answers.{Answer}
use Rattle.types.specs.declared.Granted.TheVariants.{Done, Issue}
use Rattle.types.specs.declared.Outstanding.{Outstanding}
use Rattle.types.specs.declared.Outstanding.TheVariants.{Idle, Busy, Unknown}
use Rattle.types.specs.declared.Call.{Call}
use Rattle.types.specs.declared.Command.{Command}
use Rattle.types.specs.Effects.{refusing}
use Rattle.types.specs.Numbers.{verdict_number, refusal_number, answer_number}
use Rattle.types.specs.Verdicts.{refuse, answer_after}
use Rattle.account.specs.Account.{limit_check}
use Rattle.checks.specs.Checks.{Lookup}
use Rattle.checks.specs.Checks.{lookup_of}
use Rattle.checks.specs.Facts.{Reached}
use Rattle.checks.proofs.Laws.{lookup_some, file_none}
use Rattle.decision.specs.Decision.{at_once, read_checks, read_row, write_checks, write_row, truncate_row, flush_row, open_checks, open_row, close_row, answer_on, dispatched, opens_file, called, limits_of, limited}
use Rattle.calls.specs.Calls as calls
use Rattle.calls.proofs.Laws.{call_reached, settled_answer}
use Rattle.recovery.specs.Fits.{record_fits, misfit}
use Rattle.held.specs.Held.{hold_of}
use Rattle.recovery.specs.Recovery.{nothing_lost, recovered_row, kept_open}
use Rattle.completion.specs.Completions.{Completion, good, failed, malformed, succeeded, recovered, failing, recovering, effect_on}
use Rattle.completion.specs.Completions as completions
use Rattle.completion.proofs.Laws.{effect_ready, effect_idle, effect_none}
use Rattle.engine.specs.Engine.{State}
use Rattle.consistency.specs.Possible.{IsFile, HeldPossible, Possible, impossible, no_file}
use Rattle.consistency.proofs.Kept.{possible_call, held_reached, possible_ready}

-- an answer, and what checks find, that is neither
pub record Ordinary (a : Answer) : Type 0 where
  pub found : answer_number a ≢ no_file
  pub possible : answer_number a ≢ impossible

record Harmless (v : Verdict) : Type 0 where
  found : verdict_number v ≢ no_file
  possible : verdict_number v ≢ impossible

-- THE STEPS of a chain

passed : Harmless (Ok tt)
passed = record { found = λ e. omega arith; possible = λ e. omega arith }

after : {v : Verdict} {a : Answer} → Harmless v → Ordinary a → Ordinary (answer_after v a)
unfolding answer_after
after {v} {a} o p = by v o
  where
    by : (v : Verdict) → Harmless v → Ordinary (answer_after v a)
    by (Ok tt) o = p
    by (Err x) o = record { found = o.found; possible = o.possible }

-- a refusal by another number
refused : {v : Verdict} (t : Bool) (x : Refusal) → refusal_number x ≢ no_file → refusal_number x ≢ impossible → Harmless v → Harmless (refuse t x v)
unfolding refuse
refused true x f p o = record { found = f; possible = p }
refused false x f p o = o

issued : (c : Command) → Ordinary (Ok (Issue c))
issued c = record { found = λ e. omega arith; possible = λ e. omega arith }

once : (t : Bool) (c : Command) → Ordinary (at_once t (Ok (Issue c)))
unfolding at_once
once true c = record { found = λ e. omega arith; possible = λ e. omega arith }
once false c = issued c

-- a count, at once
answered : (count : ℕ) → Ordinary (Ok (Done count))
answered count = record { found = λ e. omega arith; possible = λ e. omega arith }

-- 4, 5 and 6 on a row, and 13 and 14
denied : {v : Verdict} (t : Bool) → Harmless v → Harmless (refuse t refusal.Denied v)
denied t o = refused t refusal.Denied (λ e. omega arith) (λ e. omega arith) o

beyond : {v : Verdict} (t : Bool) → Harmless v → Harmless (refuse t refusal.BeyondCapacity v)
beyond t o = refused t refusal.BeyondCapacity (λ e. omega arith) (λ e. omega arith) o

misplaced : {v : Verdict} (t : Bool) → Harmless v → Harmless (refuse t refusal.Misplaced v)
misplaced t o = refused t refusal.Misplaced (λ e. omega arith) (λ e. omega arith) o

closed : {v : Verdict} (t : Bool) → Harmless v → Harmless (refuse t refusal.NotOpen v)
closed t o = refused t refusal.NotOpen (λ e. omega arith) (λ e. omega arith) o

crowded : {v : Verdict} (t : Bool) → Harmless v → Harmless (refuse t refusal.TooManyOpens v)
crowded t o = refused t refusal.TooManyOpens (λ e. omega arith) (λ e. omega arith) o

-- EACH CALL on its row, after 2 and 3
row_ordinary : (explicit : Bool) (block : ℕ) (k : FileKind) (r : Row) (x : Call) → Ordinary (answer_on explicit block k r x)
unfolding read_row read_checks write_row write_checks truncate_row flush_row open_checks open_row close_row
row_ordinary explicit block k r (Call.Read o n) = after (denied _ (beyond _ passed)) (once _ _)
row_ordinary explicit block k r (Call.Write o n) = after (denied _ (closed _ (beyond _ (misplaced _ passed)))) (once _ _)
row_ordinary explicit block k r (Call.Truncate t) = after (denied _ passed) (once _ _)
row_ordinary explicit block k r Call.Flush = after (denied _ passed) (issued _)
row_ordinary explicit block Conventional r Call.Open = answered 0
row_ordinary explicit block Sequential r Call.Open = after (denied _ (crowded _ passed)) (once _ _)
row_ordinary explicit block Conventional r Call.Close = answered 0
row_ordinary explicit block Sequential r Call.Close = after (closed _ passed) (once _ _)

-- 11 and 12
limits_harmless : (explicit : Bool) (a : Account) (k : FileKind) (r : Row) (x : Call) → Harmless (limits_of explicit a k r x)
unfolding limit_check
limits_harmless explicit a k r x = by (opens_file k x)
  where
    by : (t : Bool) → Harmless (cond t (limit_check explicit a r (called k x r)) (Ok tt))
    by true =
        refused _ refusal.OpenLimit (λ e. omega arith) (λ e. omega arith)
        (refused _ refusal.ActiveLimit (λ e. omega arith) (λ e. omega arith) passed)
    by false = passed

within : {v : Verdict} (a : Answer) → Harmless v → Ordinary a → Ordinary (limited v a)
unfolding limited
within (Err y) o p = p
within (Ok (Done count)) o p = after o p
within (Ok (Issue c)) o p = after o p

call_ordinary : (m : Mount) (k : FileKind) (r : Row) (x : Call) → Ordinary (calls.on_row m k r x)
unfolding dispatched
call_ordinary m k r x =
    after (refused _ refusal.Busy (λ e. omega arith) (λ e. omega arith) passed)
    (within _ (limits_harmless m.volume.explicit m.account k r x)
    (after (refused _ refusal.ReadOnlyMount (λ e. omega arith) (λ e. omega arith) passed) (row_ordinary m.volume.explicit m.volume.block k r x)))

-- FROM WHAT IS POSSIBLE

-- a completion that passes 10
ready_answer : (m : Mount) (h : Held) (r : Row) (x : Completion) → Ordinary (effect_on m h r x).outcome.answer
unfolding succeeded recovered
ready_answer m h r good = record { found = λ q. omega arith; possible = λ q. omega arith }
ready_answer m h r (failed z) = by (record_fits m.volume.block h.kind r z) (nothing_lost h.kind h.command.kind z r.size)
  where
    new : Row
    new = kept_open h.command.kind (recovered_row m.volume.policy h.kind z r)

    by : (fits kept : Bool)
        → Ordinary (cond fits (cond kept (failing m h r) (recovering m h r new)) (refusing m (refusal.BadRecord (misfit m.volume.block h.kind r z)))).outcome.answer
    by false kept = record { found = λ q. omega arith; possible = λ q. omega arith }
    by true false = record { found = λ q. omega arith; possible = λ q. omega arith }
    by true true = record { found = λ q. omega arith; possible = λ q. omega arith }
ready_answer m h r malformed = record { found = λ q. omega arith; possible = λ q. omega arith }

module _ {s : State} (p : Possible s) where
  -- a call on a file
  pub file_ordinary : (k : FileKind) (n : ℕ) (x : Call) → IsFile s k n → Ordinary (calls.effect_of s.mount s.cnv s.seq k n x).outcome.answer
  file_ordinary k n x h =
      let (r, w) = possible_call p k n h in
      rw (call_reached s.mount s.cnv s.seq k n x r w, settled_answer s.mount s.cnv s.seq k n x r (calls.on_row s.mount k r x)) (call_ordinary s.mount k r x)

  -- a call on a file that there is, or that there is not
  pub call_answer : (k : FileKind) (n : ℕ) (x : Call) → answer_number (calls.effect_of s.mount s.cnv s.seq k n x).outcome.answer ≢ impossible
  call_answer k n x = by (lookup_of s.mount.volume s.cnv s.seq k n) refl
    where
      by : (y : Lookup) → lookup_of s.mount.volume s.cnv s.seq k n ≡ y → answer_number (calls.effect_of s.mount s.cnv s.seq k n x).outcome.answer ≢ impossible
      by (Some y) e = (file_ordinary k n x (lookup_some s.mount.volume s.cnv s.seq k n y e)).possible
      by None e = rw (file_none s.mount s.cnv s.seq k n p.counts e) (λ q. omega arith)

  -- a completion of a file's command
  file_answer : (k : FileKind) (n : ℕ) (x : Completion) (r : Row) → Reached s.mount s.cnv s.seq k n r → (o : Outstanding) → r.outstanding ≡ o
      → Ordinary (completions.effect_of s.mount s.cnv s.seq k n x).outcome.answer
  file_answer k n x r w Idle e =
      rw (effect_idle s.mount s.cnv s.seq k n r x w e) (record { found = λ q. omega arith; possible = λ q. omega arith })
  file_answer k n x r w (Busy c) e =
      rw (effect_ready s.mount s.cnv s.seq k n c r x (possible_ready p k n c r w e)) (ready_answer s.mount (hold_of k n c) r x)
  file_answer k n x r w Unknown e = absurd (subst (HeldPossible s.mount.volume k r) e (held_reached p k n r w))

  pub completion_ordinary : (k : FileKind) (n : ℕ) (x : Completion) → IsFile s k n → Ordinary (completions.effect_of s.mount s.cnv s.seq k n x).outcome.answer
  completion_ordinary k n x h = let (r, w) = possible_call p k n h in file_answer k n x r w r.outstanding refl

  -- of a file that there is, or that there is not
  pub completion_answer : (k : FileKind) (n : ℕ) (x : Completion) → answer_number (completions.effect_of s.mount s.cnv s.seq k n x).outcome.answer ≢ impossible
  completion_answer k n x = by (lookup_of s.mount.volume s.cnv s.seq k n) refl
    where
      by : (y : Lookup) → lookup_of s.mount.volume s.cnv s.seq k n ≡ y → answer_number (completions.effect_of s.mount s.cnv s.seq k n x).outcome.answer ≢ impossible
      by (Some y) e = (completion_ordinary k n x (lookup_some s.mount.volume s.cnv s.seq k n y e)).possible
      by None e = rw (effect_none s.mount s.cnv s.seq k n x p.counts e) (λ q. omega arith)
