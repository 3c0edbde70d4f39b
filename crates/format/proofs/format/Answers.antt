use mathlib.Core.Path.{sym, ◌∙◌}
use native.Mathlib.Omega.{arith}
use Rattle.types.specs.Blocks.{block_sectors}
use Rattle.zones.specs.Zone.{zone_at}
use Rattle.zones.proofs.Laws.{zone_bounded}
use Rattle.format.proofs.Checks.{format_told, record_told}
use Rattle.format.proofs.format.Goals as goal

pub put_super-requires : goal.put_super-requires
put_super-requires c =
    let a = c.args in
    let t = format_told _ _ _ _ _ (sym (c.check.ensures a.uuid) ∙ c.in_ok-check.was) in
    t.size

pub filled-requires : goal.filled-requires
filled-requires c =
    let a = c.args in
    let t = format_told _ _ _ _ _ (sym (c.check.ensures a.uuid) ∙ c.in_ok-check.was) in
    t.short

pub zone_at-requires : goal.zone_at-requires
zone_at-requires c =
    let a = c.args in
    let t = format_told _ _ _ _ _ (sym (c.check.ensures a.uuid) ∙ c.in_ok-check.was) in
    omega (arith, (record_told _ _ _ t.first).0)

pub must_finish-requires : goal.must_finish-requires
must_finish-requires c =
    let a = c.args in
    let t = format_told _ _ _ _ _ (sym (c.check.ensures a.uuid) ∙ c.in_ok-check.was) in
    rw c.zone_at.ensures (zone_bounded (block_sectors a.block) 0 (zone_at a.given a.zone.now 0) (record_told _ _ _ t.first).1)
