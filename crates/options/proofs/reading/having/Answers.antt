use Prim.Native.Nat.{ℕ, ◌^◌, ◌<◌}
use mathlib.Core.Path.{◌≡◌, refl, ◌∙◌, ap}
use lib.ListN.{drop}
use lib.Dec.{eqb}
use native.Mathlib.Omega.{arith}
use Rattle.options.specs.Facts.{word_table}
use Rattle.options.specs.Reading.{words, having}
use Rattle.options.proofs.Sets.{count, set_small, byte_small, having-turn}
use Rattle.options.proofs.reading.having.Goals as goal

pub loop-w-init : goal.loop-w-init
unfolding having words
loop-w-init c = refl

pub overflow_mul-set : goal.overflow_mul-set
overflow_mul-set c =
    let l = c.loop-w in
    let a = c.args in
    let small : l.set < 2 ^ count = set_small a.b a.at l.w l.set l.invariant in
    record { fits = omega arith }

pub overflow_add-set : goal.overflow_add-set
overflow_add-set c =
    let l = c.loop-w in
    let a = c.args in
    let small : l.set < 2 ^ count = set_small a.b a.at l.w l.set l.invariant in
    record { fits = omega (arith, c.from.ensures, byte_small (eqb a.b c.byte_at.result)) }

pub loop-w-preserved : goal.loop-w-preserved
unfolding word_table words
loop-w-preserved c =
    let l = c.loop-w in
    let a = c.args in
    rw c.from.ensures (having-turn _ a.b a.at l.w l.set c.byte_at.result (omega arith) (omega arith) c.byte_at.ensures l.invariant)

pub returns : goal.returns
returns c =
    let l = c.loop-w in
    let a = c.args in
    let none : l.w ≡ 0 = omega arith in
    l.invariant ∙ ap (λ (w : ℕ). having a.b a.at (drop w words)) none
