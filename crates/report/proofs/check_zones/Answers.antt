use Rattle.files.proofs.Walks.{step_number}
use Rattle.zones.proofs.Laws.{zone_bounded}
use Rattle.zones.proofs.Faults.{zone_faultless, tested}
use mathlib.Core.Path.{ap, ◌∙◌}
use Rattle.std.specs.Prelude.{Ok}
use Rattle.types.specs.Answers.{Verdict}
use Rattle.types.specs.Verdicts.{giving}
use Rattle.files.specs.declared.Walk.{Walk}
use Rattle.files.specs.Walk.{begun, walked}
use Rattle.report.specs.Report.{zones_of}
use Rattle.report.proofs.Pass.{checking_begun, checking_done, checking_bad, checking_step}
use native.Mathlib.Omega.{arith}
use Rattle.report.proofs.check_zones.Goals as goal

pub loop-walk-init : goal.loop-walk-init
loop-walk-init c = (checking_begun _ _ _ _ c.begin-walk.ensures, c.zone_count-count.ensures)

pub step-walk-requires : goal.step-walk-requires
step-walk-requires c =
    let good = tested (zone_faultless _ _ _) c.zone_fault-fault.ensures c.is_faultless.ensures c.if-not-is_faultless.false in
    (c.loop-walk.invariant.0.bounded, zone_bounded _ _ _ good)

pub loop-walk-smaller : goal.loop-walk-smaller
loop-walk-smaller c =
    let w = c.loop-walk.walk in
    omega (arith, ap (λ w. w.number) c.step-walk.ensures, step_number c.args.aggregate w c.read_zone-z.result)

pub loop-walk-preserved : goal.loop-walk-preserved
loop-walk-preserved c =
    let good = tested (zone_faultless _ _ _) c.zone_fault-fault.ensures c.is_faultless.ensures c.if-not-is_faultless.false in
    let l = c.loop-walk in
    let z = c.read_zone-z in
    (checking_step _ _ _ l.walk l.invariant.0 z.result z.ensures (omega arith) c.step-walk.result c.requires.0.few good c.step-walk.ensures, l.invariant.1)

pub returns-then-not-is_faultless : goal.returns-then-not-is_faultless
returns-then-not-is_faultless c =
    let fault = c.zone_fault-fault in
    let bad = tested (zone_faultless _ _ _) fault.ensures c.is_faultless.ensures c.if-not-is_faultless.true in
    let l = c.loop-walk in
    let z = c.read_zone-z in
    let refused = checking_bad _ c.args.aggregate _ l.walk l.invariant.0 z.result z.ensures (omega arith) fault.result fault.ensures bad in
    record { value = ap (λ (v : Verdict). giving v (walked c.args.aggregate begun (zones_of c.args.report.now))) refused; bounded = tt }

pub returns : goal.returns
returns c =
    let l = c.loop-walk in
    let d = checking_done _ c.args.aggregate _ l.walk l.invariant.0 (omega arith) in
    let whole = walked c.args.aggregate begun (zones_of c.args.report.now) in
    record { value = ap (λ (w : Walk). Ok w) d.1 ∙ ap (λ (v : Verdict). giving v whole) d.0; bounded = l.invariant.0.bounded }
