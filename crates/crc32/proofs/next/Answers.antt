use Rattle.crc32.proofs.Linear.{by_table}
use borrow.Author.Rules.{rules}
use Rattle.crc32.proofs.next.Goals as goal

pub returns : goal.returns
returns c = let a = c.args in by_table a.table.now a.crc a.byte c.requires (search rules)
