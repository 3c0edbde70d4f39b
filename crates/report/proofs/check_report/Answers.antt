use Rattle.report.specs.Report.{report_check}
use Rattle.types.specs.Verdicts.{refuse}
use Rattle.report.proofs.Laws.{framed}
use mathlib.Core.Path.{◌∙◌, sym}
use borrow.Author.Rules.{rules}
use Rattle.report.proofs.check_report.Goals as goal

pub check_zones-requires : goal.check_zones-requires
check_zones-requires c = (framed _ (sym c.good_header.ensures ∙ c.if-not-good_header.false), search rules)

pub returns-then-not-good_header : goal.returns-then-not-good_header
unfolding report_check refuse
returns-then-not-good_header c =
    let bad = sym c.good_header.ensures ∙ c.if-not-good_header.true in
    record { value = rw bad; bounded = tt }

pub returns : goal.returns
unfolding report_check refuse
returns c =
    let good = sym c.good_header.ensures ∙ c.if-not-good_header.false in
    let e = c.check_zones.ensures in
    record { value = rw good e.value; bounded = e.bounded }
