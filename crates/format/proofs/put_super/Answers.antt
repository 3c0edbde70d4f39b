use Rattle.format.proofs.Bytes.{super_put}
use borrow.Author.Rules.{rules}
use Rattle.format.proofs.put_super.Goals as goal

pub returns : goal.returns
returns c =
    let names = c.put_names.ensures in
    let numbers = c.put_numbers.ensures in
    let tail = c.put_tail.ensures in
    let checksum = rw c.superblock_checksum-sum.ensures at c.put_number.ensures in
    let v = c.args.v.now in
    super_put v.label v.uuid v.features v.owner v.group v.mode (search rules) (search rules) c.args.out.now _ _ _ _ c.requires names numbers tail checksum
