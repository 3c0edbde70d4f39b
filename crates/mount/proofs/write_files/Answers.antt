use Rattle.mount.proofs.Filling.{writing_begun, writing_zone, writing_cnv, writing_seq, writing_step, writing_last, written_cnv, written_seq}
use Rattle.files.proofs.Walks.{step_number}
use mathlib.Core.Path.{ap}
use native.Mathlib.Omega.{arith}
use Rattle.mount.proofs.write_files.Goals as goal

pub loop-walk-init : goal.loop-walk-init
loop-walk-init c = (writing_begun _ _ _ _ _ c.begin-walk.ensures c.requires, c.zone_count-count.ensures)

pub put_run-requires : goal.put_run-requires
put_run-requires c =
    let l = c.loop-walk in
    let z = c.read_zone-z in
    (omega (arith, l.invariant.0.bounded.run, l.invariant.0.bounded.number), rw c.run_ends.ensures (writing_cnv _ _ _ _ _ _ _ l.invariant.0 z.result z.ensures (omega arith)))

pub put_seq-requires : goal.put_seq-requires
put_seq-requires c =
    let l = c.loop-walk in
    let z = c.read_zone-z in
    (writing_zone _ _ _ _ _ _ _ l.invariant.0 z.result z.ensures (omega arith), writing_seq _ _ _ _ _ _ _ l.invariant.0 z.result z.ensures (omega arith))

pub step-walk-requires : goal.step-walk-requires
step-walk-requires c =
    let l = c.loop-walk in
    let z = c.read_zone-z in
    (l.invariant.0.bounded, writing_zone _ _ _ _ _ _ _ l.invariant.0 z.result z.ensures (omega arith))

pub loop-walk-smaller : goal.loop-walk-smaller
loop-walk-smaller c =
    let w = c.loop-walk.walk in
    omega (arith, ap (λ w. w.number) c.step-walk.ensures, step_number c.args.aggregate w c.read_zone-z.result)

pub loop-walk-preserved : goal.loop-walk-preserved
loop-walk-preserved c =
    let l = c.loop-walk in
    let z = c.read_zone-z in
    let put = rw c.run_ends.ensures at c.put_run.ensures in
    (writing_step _ _ _ _ _ _ _ l.invariant.0 z.result z.ensures (omega arith) c.step-walk.ensures c.requires.frame.few put c.put_seq.ensures, l.invariant.1)

pub put_run-requires-2 : goal.put_run-requires-2
put_run-requires-2 c =
    let l = c.loop-walk in
    (omega (arith, l.invariant.0.bounded.run, l.invariant.0.bounded.number), writing_last _ _ _ _ _ _ _ l.invariant.0 (omega arith))

pub returns : goal.returns
returns c =
    let l = c.loop-walk in
    record { cnvs = written_cnv _ _ _ _ _ _ _ l.invariant.0 (omega arith) c.put_run-2.ensures; seqs = written_seq _ _ _ _ _ _ _ l.invariant.0 (omega arith) }
