-- The starred cases hold.
-- Assumes nothing.
use Rattle.types.specs.declared.ErrorPolicy.TheVariants.{Repair}
use Rattle.consistency.specs.Cases.{paper, aggregated, zone4_full, Starred}
use Rattle.consistency.proofs.Computed.{mount_computed, computed}

pub starred : Starred
unfolding Starred
starred = rw (mount_computed paper Repair, mount_computed aggregated Repair, mount_computed zone4_full Repair) computed.cases
