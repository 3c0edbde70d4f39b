use native.Mathlib.Omega.{arith}
use Prim.Native.Nat.{ℕ, ◌-◌}
use mathlib.Core.List.{append-nil}
use mathlib.Core.Path.{◌≡◌, ap, ◌∙◌}
use lib.ListN.{length-set}
use lib.Seq.{sets}
use Rattle.std.proofs.lemmas.List.{take_all}
use Rattle.wire.specs.Le.{little}
use Rattle.wire.proofs.Stores.{part_size, put_part, byte_put}
use Rattle.wire.proofs.put_number.Goals as goal

pub loop-byte-init : goal.loop-byte-init
loop-byte-init c =
    let a = c.args in
    let none : a.n - 0 ≡ a.n = omega arith in
    (part_size a.b.now a.at a.n c.requires, ap (λ (k : ℕ). little k a.x) none)

pub loop-byte-preserved : goal.loop-byte-preserved
loop-byte-preserved c =
    let l = c.loop-byte in (
      length-set l.byte-items l.byte-index _ ∙ l.invariant.0,
      byte_put c.args.n l.byte-index l.rest l.byte-items (omega arith) l.invariant.0 ∙ l.invariant.1,
    )

pub returns : goal.returns
unfolding little
returns c =
    let a = c.args in
    let l = c.loop-byte in
    let none : a.n - l.byte-index ≡ 0 = omega arith in
    let whole = rw (none, take_all l.byte-index l.byte-items (omega arith), append-nil l.byte-items) at l.invariant.1 in
    put_part a.b.now l.byte-items a.at _ (omega arith) (omega arith) ∙ ap (sets a.b.now a.at) whole
