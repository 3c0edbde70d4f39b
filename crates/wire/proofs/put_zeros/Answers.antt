use native.Mathlib.Omega.{arith}
use Prim.Native.Nat.{ℕ}
use lib.ListN.{replicate, length-replicate}
use Rattle.wire.proofs.Stores.{part_size, put_part}
use Rattle.wire.proofs.put_zeros.Goals as goal

pub returns : goal.returns
returns c =
    let a = c.args in
    let zeros = rw (part_size a.b.now a.at a.n c.requires) at c.fill.ensures.after (λ y e. e) in
    rw zeros (put_part a.b.now (replicate a.n 0) a.at _ (omega (arith, length-replicate {A = ℕ})) (omega arith))
