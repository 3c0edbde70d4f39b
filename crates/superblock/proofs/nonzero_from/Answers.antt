use Rattle.std.proofs.Common.{rules, tests}
use mathlib.Core.Path.{◌∙◌}
use mathlib.Core.Bool.{not}
use lib.Dec.{eqb}
use lib.ListN.{drop}
use Rattle.std.proofs.lemmas.Iterator.{YieldsList-from_slice}
use Rattle.std.proofs.lemmas.Iterator.Adapters.{YieldsList-from_skip}
use Rattle.std.proofs.lemmas.Iterator.Search.{any_from_yields_List}
use Rattle.superblock.proofs.Laws.{nonzero_any}
use Rattle.superblock.proofs.nonzero_from.Goals as goal

pub returns : goal.returns
returns c =
    any_from_yields_List (λ x. not (eqb x 0)) _ _ _ c.any.ensures.ran
    (YieldsList-from_skip c.args.from (YieldsList-from_slice c.args.b.now cc) cc) (λ x r q k. search (rules, tests))
    ∙ nonzero_any (drop c.args.from c.args.b.now)
