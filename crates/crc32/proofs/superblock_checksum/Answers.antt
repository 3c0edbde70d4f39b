use Rattle.crc32.specs.Crc.{superblock_crc}
use Rattle.crc32.proofs.Fold.{crc_append}
use Rattle.crc32.proofs.superblock_checksum.Goals as goal

pub returns : goal.returns
unfolding superblock_crc
returns c =
    simp (c.carry_many.ensures, c.after.ensures, c.carry-field.ensures, c.carry-before.ensures, c.first.ensures, crc_append)
