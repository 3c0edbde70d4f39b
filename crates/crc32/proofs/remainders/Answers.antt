use Rattle.crc32.proofs.Table.{ruled}
use Rattle.crc32.specs.Crc.{crc_steps, crc_step}
use mathlib.Core.Path.{refl}
use Rattle.crc32.proofs.remainders.Goals as goal

-- the test of the first table, computed here
pub returns : goal.returns
unfolding crc_steps crc_step
returns c = ruled _ refl tt
