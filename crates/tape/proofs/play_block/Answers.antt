use Prim.Native.Nat.{ℕ}
use native.Mathlib.Omega.{arith}
use mathlib.Core.Path.{◌≡◌, refl, sym, subst, ◌∙◌}
use mathlib.Core.Bool.{true, false}
use lib.ListN.{length}
use Rattle.tape_turns.specs.Facts.{rest_of}
use Rattle.tape.specs.Blocks.{is_ready}
use Rattle.tape.proofs.Blocks.{ready_room}
use Rattle.tape.proofs.Loop.{begin, again, less, over}
use Rattle.tape.proofs.play_block.Goals as goal

pub loop-cnv-init : goal.loop-cnv-init
loop-cnv-init c =
    let a = c.args in
    (refl, refl, refl, λ h. h, begin a.out.now a.b.now a.ended a.t.to (length a.out.now) (rest_of a.t a.cnv.now a.seq.now))

pub take_turn-t-requires : goal.take_turn-t-requires
take_turn-t-requires c =
    let a = c.args in
    let l = c.loop-cnv in
    let e : is_ready l.t.more l.t.next a.ended (length a.b.now) l.t.to (length l.out) ≡ true = sym c.is_ready.ensures ∙ c.loop-cnv-test.true in
    ready_room (rest_of l.t l.cnv l.seq) a.ended a.b.now l.t.to (length l.out) e

pub loop-cnv-smaller : goal.loop-cnv-smaller
loop-cnv-smaller c =
    let a = c.args in
    let l = c.loop-cnv in
    let e : is_ready l.t.more l.t.next a.ended (length a.b.now) l.t.to (length l.out) ≡ true = sym c.is_ready.ensures ∙ c.loop-cnv-test.true in
    less a.ended a.b.now (length l.out) (rest_of l.t l.cnv l.seq) c.take_turn-t.result e c.take_turn-t.ensures

pub loop-cnv-preserved : goal.loop-cnv-preserved
loop-cnv-preserved c =
    let a = c.args in
    let l = c.loop-cnv in
    let i = l.invariant in
    let e : is_ready l.t.more l.t.next a.ended (length a.b.now) l.t.to (length l.out) ≡ true = sym c.is_ready.ensures ∙ c.loop-cnv-test.true in
    let w = subst (λ (n : ℕ). is_ready l.t.more l.t.next a.ended (length a.b.now) l.t.to n ≡ true) i.2 e in
    let turn = c.take_turn-t in
    let k = turn.auto in (
      k.cnv ∙ i.0,
      k.seq ∙ i.1,
      k.out ∙ i.2,
      λ h. omega (arith, turn.ensures.room, ready_room (rest_of l.t l.cnv l.seq) a.ended a.b.now l.t.to (length a.out.now) w),
      again turn.result w turn.ensures i.4,
    )

pub returns : goal.returns
returns c =
    let a = c.args in
    let l = c.loop-cnv in
    let e : is_ready l.t.more l.t.next a.ended (length a.b.now) l.t.to (length l.out) ≡ false = sym c.is_ready.ensures ∙ c.loop-cnv-test.false in
    let w = subst (λ (n : ℕ). is_ready l.t.more l.t.next a.ended (length a.b.now) l.t.to n ≡ false) l.invariant.2 e in
    record { plays = over l.t l.invariant.4 w; to_in_bounds = l.invariant.3 }
