-- What a step is, from the effect that its call or completion has; which row that effect stores; and what a step leaves of the mount.
-- Assumes nothing.
use Rattle.std.specs.Prelude.{Ok, Err, Some, None}
use Prim.Native.Nat.{ℕ}
use mathlib.Core.Path.{◌≡◌, refl, ap, ◌∙◌, sym, subst}
use mathlib.Core.Bool.{Bool, true, false, cond}
use mathlib.Core.List.{List, [], ◌∷◌}
use lib.ListN.{length}
use Rattle.types.specs.declared.Mount.{Mount}
use Rattle.types.specs.declared.Row.{Row}
use Rattle.types.specs.declared.FileKind.{FileKind}
use Rattle.types.specs.declared.Call.{Call}
use Rattle.types.specs.Answers.{Answer}
use Rattle.types.specs.declared.Granted.TheVariants.{Done, Issue}
use Rattle.types.specs.declared.Outcome.{Outcome}
use Rattle.types.specs.declared.Effect.{Effect}
use Rattle.types.specs.Answers.{Store}
use Rattle.types.specs.Codes.{kind_code, is_kind, kind_from}
use Rattle.types.specs.Effects.{refusing}
use Rattle.types.proofs.CodeLaws.{kind_there}
use Rattle.table.specs.Facts.{StoreFits}
use Rattle.checks.specs.Checks.{no_kind}
use Rattle.account.proofs.Laws.{Fixes, Small}
use Rattle.decision.specs.Decision as decision
use Rattle.decision.specs.Decision.{counts}
use Rattle.calls.specs.Calls as calls
use Rattle.calls.proofs.Laws as called
use Rattle.held.specs.Held.{Pending}
use Rattle.held.specs.Held.{pending_of}
use Rattle.held.specs.Facts.{PendingTells}
use Rattle.held.proofs.Laws.{pending_tells}
use Rattle.recovery.specs.Fits.{record_fits}
use Rattle.recovery.specs.Recovery.{nothing_lost}
use Rattle.completion.specs.Completions.{Completion, succeeded, recovered, effect_pending}
use Rattle.completion.specs.Completions as completions
use Rattle.completion.proofs.Laws.{either}
use Rattle.completion.proofs.Laws as completed
use Rattle.engine.specs.Engine.{State, Input, call, completion, effect_of, step_by, step, run}
use Rattle.engine.specs.Facts.{state_of, step_of}
use Rattle.engine.specs.Frame.{kind_in, number_in}

-- A STEP, whose effect a function found and applied
pub applied_steps : {cnv' seq' : List ℕ} {e : Effect} {r : Outcome} (m : Mount) (cnv seq : List ℕ) (x : Input) → e ≡ effect_of (state_of m cnv seq) x
    → ((w : Mount) → step_by (state_of w cnv seq) e ≡ step_of r cnv' seq') → step (state_of m cnv seq) x ≡ step_of r cnv' seq'
unfolding step
applied_steps m cnv seq x found applied = ap (step_by (state_of m cnv seq)) (sym found) ∙ applied m

-- AN EFFECT is that of an input on a file, or the refusal of a number that is no kind.
module _ (m : Mount) (cnv seq : List ℕ) (P : Effect → Type 0) where
  by_kind : (kind : ℕ) (d : Effect) → (is_kind kind ≡ true → P d) → P (refusing m (no_kind m (length cnv) (length seq)))
      → P (cond (is_kind kind) d (refusing m (no_kind m (length cnv) (length seq))))
  by_kind kind d on off = by (is_kind kind) on
    where
      by : (t : Bool) → (t ≡ true → P d) → P (cond t d (refusing m (no_kind m (length cnv) (length seq))))
      by true on = on refl
      by false on = off

  pub call_by : (kind n : ℕ) (x : Call) → (is_kind kind ≡ true → P (calls.effect_of m cnv seq (kind_from kind) n x))
      → P (refusing m (no_kind m (length cnv) (length seq))) → P (calls.effect_by m cnv seq kind n x)
  unfolding calls.effect_by
  call_by kind n x on off = by_kind kind (calls.effect_of m cnv seq (kind_from kind) n x) on off

  pub completion_by_lem : (kind n : ℕ) (x : Completion) → (is_kind kind ≡ true → P (completions.effect_of m cnv seq (kind_from kind) n x))
      → P (refusing m (no_kind m (length cnv) (length seq))) → P (completions.effect_by m cnv seq kind n x)
  unfolding completions.effect_by
  completion_by_lem kind n x on off = by_kind kind (completions.effect_of m cnv seq (kind_from kind) n x) on off

-- what is stored is a row of the tables
pub effect_fits : (s : State) (x : Input) → StoreFits s.cnv s.seq (effect_of s x).store
effect_fits s (call kind n x) =
    call_by s.mount s.cnv s.seq (λ d. StoreFits s.cnv s.seq d.store) kind n x (λ e. called.effect_fits s.mount s.cnv s.seq (kind_from kind) n x) tt
effect_fits s (completion kind n x) =
    completion_by_lem s.mount s.cnv s.seq (λ d. StoreFits s.cnv s.seq d.store) kind n x (λ e. completed.effect_fits s.mount s.cnv s.seq (kind_from kind) n x) tt

-- THE ROW THAT IS STORED is that of the file which the input names.
abbrev pub OfFile : (kind n : ℕ) → Store → Type 0
OfFile kind n None = Unit
OfFile kind n (Some (k, i, r)) = (kind_code k ≡ kind) × (i ≡ n)

settled_names : (m : Mount) (k : FileKind) (i : ℕ) (r : Row) (x : Call) (a : Answer) → OfFile (kind_code k) i (calls.settled m k i r x a).store
settled_names m k i r x (Err y) = tt
settled_names m k i r x (Ok (Done count)) = by (counts k x)
  where
    by : (t : Bool) → OfFile (kind_code k) i (cond t (Some (k, i, decision.called k x r)) None)
    by true = (refl, refl)
    by false = tt
settled_names m k i r x (Ok (Issue c)) = (refl, refl)

pending_names : (m : Mount) (cnv seq : List ℕ) (k : FileKind) (i : ℕ) (p : Pending) (x : Completion) → PendingTells m cnv seq k i p → OfFile (kind_code k) i (effect_pending m p x).store
unfolding succeeded recovered
pending_names m cnv seq k i (Err y) x w = tt
pending_names m cnv seq k i (Ok (h, r)) Completion.good (w, (e, f)) = (ap kind_code e, f)
pending_names m cnv seq k i (Ok (h, r)) (Completion.failed z) (w, (e, f)) =
    let P : Effect → Type 0 = λ d. OfFile (kind_code k) i d.store in
    either P (record_fits m.volume.block h.kind r z) _ _ (either P (nothing_lost h.kind h.command.kind z r.size) _ _ (ap kind_code e, f) (ap kind_code e, f)) tt
pending_names m cnv seq k i (Ok (h, r)) Completion.malformed w = tt

pub effect_names : (s : State) (x : Input) → OfFile (kind_in x) (number_in x) (effect_of s x).store
effect_names s (call kind n x) =
    let P : Effect → Type 0 = λ d. OfFile kind n d.store in
    call_by s.mount s.cnv s.seq P kind n x (λ e.
    subst (λ j. OfFile j n (calls.effect_of s.mount s.cnv s.seq (kind_from kind) n x).store) (kind_there kind e)
    (called.call_cases s.mount s.cnv s.seq (kind_from kind) n x (λ d. OfFile (kind_code (kind_from kind)) n d.store) (λ r w. settled_names s.mount (kind_from kind) n r x (calls.on_row s.mount (kind_from kind) r x)) (λ y f. tt))) tt
effect_names s (completion kind n x) =
    let P : Effect → Type 0 = λ d. OfFile kind n d.store in
    completion_by_lem s.mount s.cnv s.seq P kind n x (λ e.
    subst (λ j. OfFile j n (completions.effect_of s.mount s.cnv s.seq (kind_from kind) n x).store) (kind_there kind e)
    (pending_names s.mount s.cnv s.seq (kind_from kind) n (pending_of s.mount s.cnv s.seq (kind_from kind) n) x (pending_tells s.mount s.cnv s.seq (kind_from kind) n))) tt

-- WHAT THE MOUNT FIXES stays, over a step and over a run, with the account's limits.
fixed : (s : State) (x : Input) → Fixes s.mount (step s x).state.mount
unfolding step
fixed s (call kind n x) =
    call_by s.mount s.cnv s.seq (λ d. Fixes s.mount d.outcome.mount) kind n x
    (λ e. (called.effect_keeps s.mount s.cnv s.seq (kind_from kind) n x).0) (refl, (refl, refl))
fixed s (completion kind n x) =
    completion_by_lem s.mount s.cnv s.seq (λ d. Fixes s.mount d.outcome.mount) kind n x
    (λ e. completed.effect_fixes s.mount s.cnv s.seq (kind_from kind) n x) (refl, (refl, refl))

pub step_fixes : (s : State) (x : Input) → (step s x).state.mount.volume ≡ s.mount.volume
step_fixes s x = (fixed s x).0

pub step_limits : (s : State) (x : Input)
    → ((step s x).state.mount.account.open_limit ≡ s.mount.account.open_limit) × ((step s x).state.mount.account.active_limit ≡ s.mount.account.active_limit)
step_limits s x = (fixed s x).1

-- and its counts are numbers of 32 bits where they were
pub step_small : (s : State) (x : Input) → Small s.mount.account → Small (step s x).state.mount.account
unfolding step
step_small s (call kind n x) h =
    call_by s.mount s.cnv s.seq (λ d. Small d.outcome.mount.account) kind n x (λ e. called.effect_small s.mount s.cnv s.seq (kind_from kind) n x h) h
step_small s (completion kind n x) h =
    completion_by_lem s.mount s.cnv s.seq (λ d. Small d.outcome.mount.account) kind n x (λ e. completed.effect_small s.mount s.cnv s.seq (kind_from kind) n x h) h

pub run_fixes : (s : State) (xs : List Input) → (run s xs).state.mount.volume ≡ s.mount.volume
unfolding run
run_fixes s [] = refl
run_fixes s (x ∷ xs) = run_fixes (step s x).state xs ∙ step_fixes s x
