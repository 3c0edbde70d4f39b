use native.Mathlib.Omega.{arith}
use Rattle.text.proofs.Stores.{then}
use Rattle.text.proofs.Decimal.{decimal-one, last_digit}
use Rattle.text.proofs.+put_digits.Goals as goal

pub returns-then-n-lt10-clause-put : goal.returns-then-n-lt10-clause-put
returns-then-n-lt10-clause-put t c = rw (decimal-one c.args.n (omega arith)) c.put_byte.ensures

pub returns-else-n-lt10-clause-put : goal.returns-else-n-lt10-clause-put
returns-else-n-lt10-clause-put t c =
    rw (last_digit c.args.n (omega arith)) (then c.put_digits-next.ensures.put c.put_byte-else-n-lt10.ensures)
