use Rattle.types.specs.declared.FileKind.TheVariants.{Conventional, Sequential}
use Rattle.checks.proofs.Laws.{counts-lent}
use Rattle.checks.proofs.lookup_of.Goals as goal

pub row_in-requires : goal.row_in-requires
row_in-requires c = counts-lent c.args.m _ _ c.requires Conventional

pub row_in-requires-in-Sequential : goal.row_in-requires-in-Sequential
row_in-requires-in-Sequential c = counts-lent c.args.m _ _ c.requires Sequential
