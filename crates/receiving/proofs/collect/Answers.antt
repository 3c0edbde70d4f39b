use Rattle.receiving.proofs.Adding.{add_refused, add-extra}
use Rattle.receiving.specs.Bytes.{Receiving}
use mathlib.Core.Path.{sym, ◌∙◌}
use Rattle.receiving.proofs.collect.Goals as goal

pub returns-in-Err : goal.returns-in-Err
returns-in-Err c = let a = c.args in
    let s : Receiving = record { received = a.received; cnv = a.cnv.now; seq = a.seq.now } in
    let all = add_refused a.rule s a.bytes.now _ c.in-Err.is in
    record { fed = all.0; used = all.1.0; taken = all.1.1.0; rest = all.1.1.1 }

pub add_bytes-requires : goal.add_bytes-requires
add_bytes-requires c = let p = c.requires in (p.0, p.1, c.in_default.is, sym c.is_complete.ensures ∙ c.if-is_complete.false)

pub returns-then-is_complete : goal.returns-then-is_complete
returns-then-is_complete c = let a = c.args in
    let s : Receiving = record { received = a.received; cnv = a.cnv.now; seq = a.seq.now } in
    let all = add-extra a.rule s a.bytes.now c.in_default.is (sym c.is_complete.ensures ∙ c.if-is_complete.true) c.refuse_extra.ensures in
    record { fed = all.0; used = all.1.0; taken = all.1.1.0; rest = all.1.1.1 }
