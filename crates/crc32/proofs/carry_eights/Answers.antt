use Rattle.crc32.proofs.Fold.{eight_number, eight_more}
use native.Mathlib.Omega.{arith}
use Rattle.crc32.proofs.carry_eights.Goals as goal

pub loop-eight-preserved : goal.loop-eight-preserved
loop-eight-preserved c = grind (arith, eight_number, eight_more c.args.b.now (λ k. (c.type_inv.b k).fits))
