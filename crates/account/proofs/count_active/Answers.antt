use native.Mathlib.Omega.{arith}
use mathlib.Core.Path.{◌≡◌, refl}
use Rattle.account.specs.Account.{is_active}
use Rattle.account.specs.Counts.{count_in}
use Rattle.account.proofs.Laws.{count_next, count_most}
use Rattle.account.proofs.count_active.Goals as goal

pub loop-i-init : goal.loop-i-init
unfolding count_in
loop-i-init c = refl

pub overflow_add-count : goal.overflow_add-count
overflow_add-count c = let l = c.loop-i in
    let a = c.args in
    record { fits = omega (arith, l.invariant, count_most (is_active a.explicit) a.t.now l.i, c.active_flag-count.ensures.upper_bound, c.loop-i-test.true, c.requires.0) }

pub loop-i-preserved : goal.loop-i-preserved
loop-i-preserved c = let l = c.loop-i in
    let a = c.args in
    rw (l.invariant, c.active_flag-count.ensures.value, c.row_at.ensures) (count_next (is_active a.explicit) a.t.now l.i)

pub returns : goal.returns
returns c = let l = c.loop-i in
    let a = c.args in
    let e : l.i ≡ a.files = omega arith in
    rw (← e) l.invariant
