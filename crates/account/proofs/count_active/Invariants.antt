use mathlib.Core.Path.{◌≡◌}
use Rattle.account.specs.Account.{is_active}
use Rattle.account.specs.Counts.{count_in}
use Rattle.account.proofs.count_active.Given as goal

abbrev pub invariant-loop-i : goal.invariant-loop-i
invariant-loop-i l = l.count ≡ count_in (is_active l.explicit) l.t l.i
