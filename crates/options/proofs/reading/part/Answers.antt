use Rattle.std.proofs.Common.{rules, tests}
use mathlib.Core.Path.{◌∙◌}
use Rattle.std.proofs.lemmas.Iterator.{YieldsList-from_slice}
use Rattle.std.proofs.lemmas.Iterator.Consumers.{fold_from_yields_List}
use Rattle.options.specs.Reading.{byte_taken}
use Rattle.options.proofs.Parts.{taken_all}
use Rattle.options.proofs.reading.part.Goals as goal

pub returns : goal.returns
returns c =
    fold_from_yields_List _ byte_taken c.args.reading _ c.fold.ensures.ran (YieldsList-from_slice c.args.bytes.now cc) (λ a x b q k. search (rules, tests))
    ∙ taken_all c.args.reading c.args.bytes.now
