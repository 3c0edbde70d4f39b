use mathlib.Core.Path.{◌∙◌}
use lib.ListN.{take, drop, length-drop}
use lib.Seq.{length-take-le}
use native.Mathlib.Omega.{arith}
use Rattle.superblock.specs.SuperBlock.{label_length}
use Rattle.wire.proofs.Stores.{put_all}
use Rattle.format.proofs.label_of.Goals as goal

pub returns : goal.returns
returns c =
    let b = c.args.b.now in
    c.put_bytes.ensures ∙ put_all _ (take label_length (drop 8 b)) (length-take-le label_length (drop 8 b) (omega (arith, length-drop 8 b, c.requires)))
