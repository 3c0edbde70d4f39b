use native.Mathlib.Omega.{arith}
use lib.ListN.{take}
use lib.Seq.{length-take-le}
use mathlib.Core.Path.{sym, ◌∙◌}
use Rattle.tape_lines.proofs.Stores.{sets_out, put_fitting}
use Rattle.tape_lines.proofs.copy_line.Goals as goal
use Rattle.tape_lines.proofs.copy_line.Goals.{then-to-out, else-to-out}

pub returns : goal.returns
returns c =
    let a = c.args in
    let line = length-take-le a.n a.line.now (omega arith) in
    record {
      bytes = elim c.if-to-out.branch [
        | then-to-out w ↦
            let k = w.min-kept.ensures in
            w.out-is ∙ put_fitting a.line.now w.copy_from_slice.new.self a.out.now a.to a.n w.min-kept.result _ w.copy_from_slice.ensures.after (omega arith) (omega arith) (omega arith, omega arith) (λ p. omega arith)
        | else-to-out w ↦ w.out-is ∙ sym (sets_out (take a.n a.line.now) a.out.now a.to w.if-to-out.false)
      ];
      place = omega (arith, line);
    }
