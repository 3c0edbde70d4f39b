-- The small runs end as their tables say, and they are runs that demand 3 speaks of.
-- Assumes nothing.
use mathlib.Core.Path.{◌≡◌, sym, subst, fun_ext}
use mathlib.Core.List.{List}
use Rattle.types.specs.declared.ErrorPolicy.{ErrorPolicy}
use Rattle.types.specs.Stated.{Case, AsStated}
use Rattle.mount.specs.Mount.{Mounting}
use Rattle.consistency.specs.Cases.{Setting, mount_under}
use Rattle.consistency.specs.Runs.{command_runs, mishap_runs, exception_runs, full_runs, other_runs, busy_runs, open_runs, Runs}
use Rattle.consistency.proofs.Computed.{mount_gives, mount_computed, report-shown, computed}

same_mounts : mount_under ≡ mount_gives
same_mounts = fun_ext (λ x. fun_ext (mount_computed x))

-- a table that holds of the mounts as computed holds of them
from_computed : (table : (Setting → ErrorPolicy → Mounting) → List Case) → AsStated (table mount_gives) → AsStated (table mount_under)
from_computed table = subst (λ (under : Setting → ErrorPolicy → Mounting). AsStated (table under)) (sym same_mounts)

pub small_runs : Runs
small_runs = record {
  starts = λ x p. record { answer = rw (mount_computed x p); shown = report-shown x };
  commands = from_computed command_runs computed.commands;
  mishaps = from_computed mishap_runs computed.mishaps;
  exceptions = from_computed exception_runs computed.exceptions;
  full = from_computed full_runs computed.full;
  others = from_computed other_runs computed.others;
  busy = from_computed busy_runs computed.busy;
  opens = from_computed open_runs computed.opens;
}
