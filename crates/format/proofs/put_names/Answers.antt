use Rattle.format.proofs.Bytes.{names_put}
use borrow.Author.Rules.{rules}
use Rattle.format.proofs.put_names.Goals as goal

pub returns : goal.returns
returns c =
    let magic = c.put_number.ensures in
    let sum = c.put_number-2.ensures in
    let v = c.args.v.now in
    names_put v.label v.uuid (search rules) c.args.out.now _ _ _ _ magic sum c.put_bytes.ensures c.put_bytes-2.ensures
