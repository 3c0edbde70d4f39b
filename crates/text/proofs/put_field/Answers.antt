use native.Mathlib.Omega.{arith}
use Rattle.text.proofs.Stores.{then}
use Rattle.text.proofs.put_field.Goals as goal

pub returns : goal.returns
returns c =
    let first = c.put_byte-next.ensures in
    let second = c.put_digits.ensures in
    record { put = then first second.put; upper_bound = omega (arith, first.place, second.upper_bound) }
