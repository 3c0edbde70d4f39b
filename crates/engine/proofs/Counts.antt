-- The account stays true, from a mount on.
-- Assumes nothing.
use mathlib.Core.List.{List, [], ◌∷◌}
use Rattle.types.specs.declared.Effect.{Effect}
use Rattle.types.specs.Codes.{kind_from}
use Rattle.mount.proofs.Counted.{mount_true}
use Rattle.calls.proofs.Laws as called
use Rattle.completion.proofs.Laws as completed
use Rattle.engine.specs.Engine.{State, Input, call, completion, step, run}
use Rattle.engine.specs.Counts.{Counted, StaysCounted, AlwaysCounted}
use Rattle.engine.proofs.Kept.{CountedAfter}
use Rattle.engine.proofs.Laws.{call_by, completion_by_lem}

pub stays_counted : StaysCounted
unfolding StaysCounted step
stays_counted s (call kind n x) h =
    call_by s.mount s.cnv s.seq (λ (d : Effect). CountedAfter s d) kind n x
    (λ e. called.effect_stays s.mount s.cnv s.seq (kind_from kind) n x h) h
stays_counted s (completion kind n x) h =
    completion_by_lem s.mount s.cnv s.seq (λ (d : Effect). CountedAfter s d) kind n x
    (λ e. completed.effect_stays s.mount s.cnv s.seq (kind_from kind) n x h) h

-- after a list of them
pub run-counted : (s : State) (xs : List Input) → Counted s → Counted (run s xs).state
unfolding run StaysCounted
run-counted s [] h = h
run-counted s (x ∷ xs) h = run-counted (step s x).state xs (stays_counted s x h)

pub always_counted : AlwaysCounted
unfolding AlwaysCounted
always_counted block superblock options report open_limit active_limit cnv seq e inputs = run-counted _ inputs (mount_true block superblock options report open_limit active_limit cnv seq e)
