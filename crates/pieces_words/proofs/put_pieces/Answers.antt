use Rattle.pieces_words.proofs.Parts.{pieces_put}
use Rattle.pieces_words.proofs.put_pieces.Goals as goal

pub returns : goal.returns
returns c = let a = c.args in
    pieces_put a.w.now a.p c.requires c.put_mount.ensures c.put_account.ensures c.put_check.ensures c.put_taken.ensures c.put_held.ensures
