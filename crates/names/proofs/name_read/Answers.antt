use mathlib.Core.Path.{◌∙◌, ap, sym}
use lib.ListN.{take, drop}
use Rattle.names.proofs.Naming.{name_short, name_is, name_prefix, name_digits}
use Rattle.names.proofs.name_read.Goals as goal

pub returns-in_err-prefix : goal.returns-in_err-prefix
returns-in_err-prefix c = rw c.from_residual.ensures (λ k n s. name_short c.args.name.now c.in_err-prefix.ensures.cases k n)

pub returns-in_err-kind : goal.returns-in_err-kind
returns-in_err-kind c = rw c.from_residual-in_err-kind.ensures (λ k n s e. c.in_err-kind.ensures k (c.in_ok-prefix.ensures.cases.1 ∙ ap (take 4) e ∙ name_prefix k n))

pub returns-in_err-number : goal.returns-in_err-number
returns-in_err-number c = rw c.from_residual-in_err-number.ensures (λ k n s e. c.in_err-number.ensures n s (c.in_ok-prefix.ensures.cases.2 ∙ ap (drop 4) e ∙ name_digits k n))

pub returns : goal.returns
returns c = name_is c.args.name.now _ _ (sym c.in_ok-prefix.ensures.cases.1 ∙ c.in_ok-kind.ensures) (sym c.in_ok-prefix.ensures.cases.2 ∙ c.in_ok-number.ensures)
