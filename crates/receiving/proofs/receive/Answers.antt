use native.Mathlib.Omega.{arith}
use mathlib.Core.Path.{sym, subst}
use Rattle.receiving.specs.Bytes.{Receiving}
use Rattle.receiving.specs.Facts.{BoundedReceived}
use Rattle.receiving.proofs.Bounds.{wholly_bounded}
use Rattle.receiving.proofs.Receiving.{first_bounded, receive_first, receive_last}
use Rattle.receiving.proofs.receive.Goals as goal

pub take_whole-whole-requires : goal.take_whole-whole-requires
take_whole-whole-requires c =
    let p = c.requires in
    let a = c.args in
    let s : Receiving = record { received = a.received; cnv = a.cnv.now; seq = a.seq.now } in
    let first = c.collect-first.ensures in
    (p.0, first_bounded a.rule s _ p.1 first.fed, first.used)

pub collect-last-requires : goal.collect-last-requires
collect-last-requires c =
    let w = c.take_whole-whole.ensures in
    (c.requires.0, subst BoundedReceived (sym c.wholly-rest.ensures) (wholly_bounded _ w.bounded))

pub returns-then-first-bytes : goal.returns-then-first-bytes
returns-then-first-bytes c =
    let a = c.args in
    let s : Receiving = record { received = a.received; cnv = a.cnv.now; seq = a.seq.now } in
    let f = c.collect-first in
    let w = c.take_whole-whole in
    let l = c.collect-last in
    let j = f.ensures.taken c.if-first-bytes.true in
    receive_last a.rule s a.bytes.now f.result.used f.ensures.fed j w.result.intake _ _ w.result.at w.ensures.fed l.result.used c.wholly-rest.ensures
    w.ensures.done w.ensures.counted l.ensures.fed l.ensures.rest

pub returns-else-first-bytes : goal.returns-else-first-bytes
returns-else-first-bytes c =
    let a = c.args in
    let s : Receiving = record { received = a.received; cnv = a.cnv.now; seq = a.seq.now } in
    let f = c.collect-first in
    receive_first a.rule s a.bytes.now f.result.used f.ensures.fed (omega arith)
