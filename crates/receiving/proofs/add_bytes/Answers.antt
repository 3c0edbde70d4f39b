use Rattle.receiving.proofs.Adding.{add_last, add_some}
use Rattle.receiving.specs.Bytes.{Receiving}
use native.Mathlib.Omega.{arith}
use mathlib.Core.Path.{◌≡◌, sym, ◌∙◌}
use lib.ListN.{length, length-take}
use Rattle.receiving.proofs.Units.{unit_few}
use borrow.Author.Rules.{rules}
use Rattle.receiving.proofs.add_bytes.Goals as goal

pub slice_bounds-put_bytes-end-2 : goal.slice_bounds-put_bytes-end-2
slice_bounds-put_bytes-end-2 c =
    let n = c.min-n in
    omega (arith, n.ensures, length-take n.result c.args.bytes.now)

pub put_bytes-requires : goal.put_bytes-requires
put_bytes-requires c =
    let a = c.args in
    let long : length a.received.part ≡ 64 = search rules in
    let unit = c.unit_bytes-unit in
    let n = c.min-n in
    let few = unit_few a.received.intake in
    omega (arith, unit.ensures, n.ensures, length-take n.result a.bytes.now)

pub returns-then-held-unit : goal.returns-then-held-unit
returns-then-held-unit c =
    let a = c.args in
    let p = c.requires in
    let unit = c.unit_bytes-unit in
    let n = c.min-n in
    let s : Receiving = record { received = a.received; cnv = a.cnv.now; seq = a.seq.now } in
    let all = add_last a.rule s a.bytes.now n.result p.1 p.2 p.3 (rw unit.ensures at n.ensures) (c.if-held-unit.true ∙ unit.ensures)
    c.put_bytes.ensures c.take_unit.ensures c.wholly.ensures in
    record { fed = all.0; used = all.1.0; taken = all.1.1.0; rest = all.1.1.1 }

pub returns-else-held-unit : goal.returns-else-held-unit
returns-else-held-unit c =
    let a = c.args in
    let p = c.requires in
    let unit = c.unit_bytes-unit in
    let n = c.min-n in
    let s : Receiving = record { received = a.received; cnv = a.cnv.now; seq = a.seq.now } in
    let all = add_some a.rule s a.bytes.now n.result p.1 p.2 p.3 (rw unit.ensures at n.ensures) (λ q. c.if-held-unit.false (q ∙ sym unit.ensures))
    c.put_bytes.ensures in
    record { fed = all.0; used = all.1.0; taken = all.1.1.0; rest = all.1.1.1 }
