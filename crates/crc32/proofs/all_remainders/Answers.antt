use Rattle.crc32.proofs.Table.{all_ruled}
use Rattle.crc32.specs.Crc.{crc_steps, crc_step}
use mathlib.Core.Path.{refl}
use Rattle.crc32.proofs.all_remainders.Goals as goal

-- the test of all tables, computed here
pub returns : goal.returns
unfolding crc_steps crc_step
returns c = all_ruled _ refl refl tt
