use native.Mathlib.Omega.{arith}
use Rattle.wire.proofs.Stores.{put_part}
use Rattle.wire.proofs.put_bytes.Goals as goal

pub returns : goal.returns
returns c =
    let a = c.args in
    rw c.copy_from_slice.ensures.after (put_part a.b.now a.from.now a.at _ (omega arith) (omega arith))
