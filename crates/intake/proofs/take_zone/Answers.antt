use Rattle.intake.specs.Steps.{zone_taken}
use Rattle.zones.proofs.Laws.{zone-told, zone_bounded}
use Rattle.zones.proofs.Faults.{zone_faultless, tested}
use borrow.Author.Rules.{rules}
use Rattle.intake.proofs.take_zone.Goals as goal

pub take_good-requires : goal.take_good-requires
take_good-requires c = let good = tested (zone_faultless _ _ _) c.zone_fault-fault.ensures c.is_faultless.ensures c.if-is_faultless.true in (search rules, zone_bounded _ _ _ good, (zone-told _ _ _ good).0)

pub returns-then-is_faultless : goal.returns-then-is_faultless
unfolding zone_taken
returns-then-is_faultless c = let good = tested (zone_faultless _ _ _) c.zone_fault-fault.ensures c.is_faultless.ensures c.if-is_faultless.true in rw good c.take_good.ensures

pub returns-else-is_faultless : goal.returns-else-is_faultless
unfolding zone_taken
returns-else-is_faultless c = let bad = tested (zone_faultless _ _ _) c.zone_fault-fault.ensures c.is_faultless.ensures c.if-is_faultless.false in rw (bad, c.refused_with.ensures, c.zone_fault-fault.ensures)
