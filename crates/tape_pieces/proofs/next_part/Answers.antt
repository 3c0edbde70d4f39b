use Rattle.tape_pieces.proofs.next_part.Goals as goal

pub returns : goal.returns
returns c = rw c.from_start.ensures at c.play_part.ensures
