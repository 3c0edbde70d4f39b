use Rattle.format.proofs.Bytes.{numbers_put}
use Rattle.format.proofs.put_numbers.Goals as goal

pub returns : goal.returns
returns c =
    let v = c.args.v.now in
    let features = c.put_number.ensures in
    let owner = c.put_number-2.ensures in
    let group = c.put_number-3.ensures in
    let mode = c.put_number-4.ensures in
    numbers_put v.features v.owner v.group v.mode c.args.out.now _ _ _ _ features owner group mode
