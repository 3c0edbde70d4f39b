use native.Mathlib.Omega.{arith}
use mathlib.Core.Path.{◌≡◌, ap, ◌∙◌}
use Rattle.pieces_words.proofs.Parts.{part_of, part_whole}
use Rattle.pieces_words.proofs.part_from.Goals as goal

pub returns : goal.returns
returns c =
    let w = c.args.w.now in
    let all : c.loop-k.k ≡ 8 = omega arith in
    c.loop-k.invariant ∙ ap (part_of w) all ∙ part_whole w
