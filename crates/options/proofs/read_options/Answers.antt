use Rattle.std.proofs.Common.{rules, tests}
use Rattle.std.specs.Prelude.{Some}
use mathlib.Core.Path.{◌∙◌}
use lib.Dec.{eqb}
use borrow.Author.Tests.{le-leb}
use Rattle.std.proofs.lemmas.Iterator.Consumers.{fold_from_yields_List}
use Rattle.std.proofs.lemmas.Iterator.Splits.{YieldsList-from_slice_split}
use Rattle.options.specs.Options.{comma, by_default, most_bytes, options_of}
use Rattle.options.proofs.Laws.{taken, pieces_taken}
use Rattle.options.proofs.read_options.Goals as goal

pub returns : goal.returns
unfolding options_of
returns c =
    let text = c.args.text.now in
    rw (le-leb _ most_bytes c.if-text-gt-MOST_BYTES.false)
    (fold_from_yields_List _ taken (Some by_default) _ c.fold.ensures.ran
    (YieldsList-from_slice_split _ (λ b. eqb b comma) text c.split.ensures.rest c.split.ensures.done c.split.ensures.closure (λ x b q k. search (rules, tests)))
    (λ a x b q k. search (rules, tests))
    ∙ pieces_taken (Some by_default) text)
