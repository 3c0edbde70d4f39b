use Rattle.mount.proofs.Mounted.{answer_told, answer_fits, answer_few, outcome_is}
use mathlib.Core.Path.{◌∙◌, sym}
use native.Mathlib.Omega.{arith}
use Rattle.mount.proofs.mount.Goals as goal

pub fill_tables-requires : goal.fill_tables-requires
fill_tables-requires c = λ k s e.
    let f = answer_fits _ _ _ _ _ _ _ k s (sym c.mount_answer-answer.ensures ∙ e) in
    record {
      frame = f.frame;
      bounded = f.bounded;
      cnvs = rw c.rows_lent-cnvs.ensures at f.cnvs;
      seqs = rw c.rows_lent-seqs.ensures at f.seqs;
    }

pub mount_of-mount-requires : goal.mount_of-mount-requires
mount_of-mount-requires c = λ k s e.
    let a = answer_told _ _ _ _ _ _ _ k s (sym c.mount_answer-answer.ensures ∙ e) in
    let fits = a.seq_fit in
    ((answer_few _ _ _ _ _ _ _ k s a).1, omega (arith, fits, c.rows_lent-seqs.ensures, c.fill_tables.auto.seq))

pub returns : goal.returns
returns c =
    let a = c.args in
    let o = outcome_is a.block a.superblock.now a.options.now a.report.now a.open_limit a.active_limit a.cnv.now a.seq.now
    c.read_superblock-read.ensures
    c.read_options-parsed.ensures
    c.rows_lent-cnvs.ensures
    c.rows_lent-seqs.ensures
    (rw (c.found_in-found.ensures, c.fields_in-fields.ensures) at c.mount_answer-answer.ensures)
    (rw c.fields_in-fields.ensures at c.fill_tables.ensures.cnvs)
    c.fill_tables.ensures.seqs
    (rw c.fields_in-fields.ensures at c.mount_of-mount.ensures) in
    record { answer = o.0; mount = o.1; cnvs = o.2; seqs = o.3 }
