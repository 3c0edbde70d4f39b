use Prim.Native.Nat.{◌-◌}
use native.Mathlib.Omega.{arith}
use mathlib.Core.Path.{sym, ap, ◌∙◌}
use mathlib.Core.Bool.{Bool, ◌&&◌}
use lib.Dec.{leb}
use lib.ListN.{length}
use Rattle.zones.specs.Zone.{zone_bytes}
use Rattle.receiving.proofs.Zones.{passing_begun, passing_fits, passing_ready, passing_step, passing_done, passing_counted, passing_moved}
use Rattle.receiving.proofs.take_whole.Goals as goal

pub loop-at-init : goal.loop-at-init
loop-at-init c = let p = c.requires in let a = c.args in passing_begun a.rule a.bytes.now a.from a.cnv.now a.seq.now a.intake p.1 p.2

pub zone_at-z-requires : goal.zone_at-z-requires
zone_at-z-requires c =
    let here = (ap (λ (t : Bool). t && leb zone_bytes (length c.args.bytes.now - c.loop-at.at)) (sym c.goes_on.ensures) ∙ c.loop-at-test.true) in
    passing_fits c.loop-at.invariant here

pub take_zone-taken-requires : goal.take_zone-taken-requires
take_zone-taken-requires c =
    let here = ap (λ (t : Bool). t && leb zone_bytes (length c.args.bytes.now - c.loop-at.at)) (sym c.goes_on.ensures) ∙ c.loop-at-test.true in
    (c.requires.0, passing_ready c.loop-at.invariant here)

pub loop-at-smaller : goal.loop-at-smaller
loop-at-smaller c =
    let here = ap (λ (t : Bool). t && leb zone_bytes (length c.args.bytes.now - c.loop-at.at)) (sym c.goes_on.ensures) ∙ c.loop-at-test.true in
    let fits = passing_fits c.loop-at.invariant here in
    omega arith

pub loop-at-preserved : goal.loop-at-preserved
loop-at-preserved c =
    let here = ap (λ (t : Bool). t && leb zone_bytes (length c.args.bytes.now - c.loop-at.at)) (sym c.goes_on.ensures) ∙ c.loop-at-test.true in
    let z = c.zone_at-z in
    let t = c.take_zone-taken in
    passing_step c.loop-at.invariant here z.result z.ensures t.ensures t.auto.cnv t.auto.seq

pub returns : goal.returns
returns c =
    let l = c.loop-at in
    let left = ap (λ (t : Bool). t && leb zone_bytes (length c.args.bytes.now - l.at)) (sym c.goes_on.ensures) ∙ c.loop-at-test.false in
    record { fed = l.invariant.same; inside = l.invariant.inside; bounded = l.invariant.bounded; counted = passing_counted l.invariant; moved = passing_moved l.invariant left; done = passing_done l.taken (length c.args.bytes.now) l.at l.invariant.inside left }
