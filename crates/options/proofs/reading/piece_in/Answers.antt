use Prim.Native.Nat.{ℕ, ◌/◌, ◌^◌}
use mathlib.Core.Path.{◌≡◌, refl, ◌∙◌, ap}
use lib.ListN.{drop}
use native.Mathlib.Omega.{arith}
use Rattle.options.specs.Facts.{word_table}
use Rattle.options.specs.Reading.{words, piece_in}
use Rattle.options.proofs.Sets.{chosen_turn, passed_turn}
use Rattle.options.proofs.reading.piece_in.Goals as goal

pub loop-w-init : goal.loop-w-init
unfolding piece_in words
loop-w-init c = refl

pub loop-w-preserved-then-set-w-eq1 : goal.loop-w-preserved-then-set-w-eq1
unfolding word_table words
loop-w-preserved-then-set-w-eq1 c =
    let l = c.loop-w in
    chosen_turn _ c.args.set l.w (omega arith) (omega arith) c.if-set-w-eq1.true

pub loop-w-preserved : goal.loop-w-preserved
loop-w-preserved c =
    let l = c.loop-w in
    passed_turn c.args.set l.w l.asked (omega arith) (omega arith) c.if-set-w-eq1.false l.invariant

pub returns : goal.returns
returns c =
    let l = c.loop-w in
    let a = c.args in
    let none : l.w ≡ 0 = omega arith in
    let whole : a.set / 1 ≡ a.set = omega arith in
    l.invariant ∙ ap (λ (w : ℕ). piece_in (drop w words) (a.set / 2 ^ w)) none ∙ ap (piece_in words) whole
