use Prim.Native.Nat.{ℕ}
use mathlib.Core.Path.{◌≡◌, refl, ◌∙◌, subst}
use mathlib.Core.Bool.{◌&&◌, false}
use lib.Dec.{leb}
use lib.ListN.{length}
use borrow.Author.Tests.{leb-true}
use Rattle.types.proofs.Tests.{and_left, and_right}
use Rattle.tape.specs.Tape.{goes_further}
use Rattle.tape_turns.specs.Facts.{rest_of}
use Rattle.tape.proofs.Playing.{fewer, begin, again, over}
use Rattle.tape.proofs.play_rest.Goals as goal

pub loop-t-init : goal.loop-t-init
loop-t-init c = (refl, refl, refl, begin c.args.out.now c.args.b.now c.args.t.to (rest_of c.args.t c.args.cnv.now c.args.seq.now))

pub block_into-t-requires : goal.block_into-t-requires
block_into-t-requires c = let r = rest_of c.loop-t.t c.loop-t.cnv c.loop-t.seq in
    leb-true c.loop-t.t.to (length c.loop-t.out) (and_right (goes_further c.args.b.now r) _ c.loop-t-test.true)

pub loop-t-smaller : goal.loop-t-smaller
loop-t-smaller c = let l = c.loop-t in
    fewer c.args.b.now (rest_of l.t l.cnv l.seq) c.block_into-t.result (and_left _ _ c.loop-t-test.true) c.block_into-t.ensures

pub loop-t-preserved : goal.loop-t-preserved
loop-t-preserved c = let k = c.block_into-t.auto in
    let i = c.loop-t.invariant in
    (k.cnv ∙ i.0, k.seq ∙ i.1, k.out ∙ i.2, again c.block_into-t.result i.3 c.block_into-t.ensures)

pub returns : goal.returns
returns c = let r = rest_of c.loop-t.t c.loop-t.cnv c.loop-t.seq in
    over c.loop-t.invariant.3 (subst (λ (n : ℕ). goes_further c.args.b.now r && leb c.loop-t.t.to n ≡ false) c.loop-t.invariant.2 c.loop-t-test.false)
