-- Only 10, 11 and 12 read the account; and what a call answers without the option.
-- Assumes nothing.
use mathlib.Core.Path.{◌≡◌, refl}
use Rattle.types.specs.declared.Effect.{Effect}
use Rattle.types.specs.Codes.{kind_from}
use Rattle.calls.specs.Calls as calls
use Rattle.completion.specs.Completions as completions
use Rattle.engine.specs.Engine.{State, call, completion, step_by, step}
use Rattle.engine.specs.Counts.{under, SameButAccount, OnlyThreeRead}
use Rattle.engine.proofs.Alike.{SameEffect, call_alike, completion_alike, kinds_alike}

-- two effects that are the same, on the same tables
same_step : (s t : State) (d e : Effect) → t.cnv ≡ s.cnv → t.seq ≡ s.seq → SameEffect d e → SameButAccount (step_by s d) (step_by t e)
same_step s t d e f g w =
    record {
      reply = w.answer;
      cnv = rw (f, w.store);
      seq = rw (g, w.store);
      mark = w.mark;
    }

pub only_three_read : OnlyThreeRead
unfolding OnlyThreeRead step calls.effect_by completions.effect_by
only_three_read s a b (call kind n x) u v =
    let m = (under s a).mount in
    same_step (under s a) (under s b) _ _ refl refl
    (kinds_alike m b kind s.cnv s.seq s.cnv s.seq _ _ (λ e. call_alike m b s.cnv s.seq s.cnv s.seq (kind_from kind) n refl x) u v)
only_three_read s a b (completion kind n x) u v =
    let m = (under s a).mount in
    same_step (under s a) (under s b) _ _ refl refl
    (kinds_alike m b kind s.cnv s.seq s.cnv s.seq _ _ (λ e. completion_alike m b s.cnv s.seq s.cnv s.seq (kind_from kind) n refl x) u v)
