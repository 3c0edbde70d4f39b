-- What is remembered of a zone's file beside its row: whether it is quiet, its last size, whether it was recovered, and how its zone
-- was at mount. A "point" lies between two events, never inside the doing of a command.
use Rattle.std.specs.Prelude.{Bool, true, false, not, cond, ◌&&◌, ◌||◌, ℕ, eqb}
use Rattle.types.specs.declared.Command.{Command}
use Rattle.types.specs.declared.CommandKind.{CommandKind}
use Rattle.types.specs.Codes.{condition_code}
use Rattle.types.specs.Commands.{is_read, opens_or_closes}
use Rattle.types.specs.Predicates.{means, is_healthy, is_read_only}
use Rattle.files.specs.Files.{seq_row}
use Rattle.disk.specs.Disk.{DiskZone, has_pointer, reported}

pub record FileHistory : Type 0 where
  -- "no mishap in its zone since mount or the last completion there that answered an outstanding command and was other than a good read"
  pub quiet : Bool
  -- "what a fresh mount would have given at the latest point, from the mount on, where the file was quiet and its zone healthy"
  pub last_size : ℕ
  -- "a command on the file failed, not counting a read after which the zone was healthy and a fresh mount would have given the last size
  -- from before it"
  pub recovered : Bool
  -- "is read-only, and wasn't at mount"
  pub read_only_at_mount : Bool

-- the size that a fresh mount would give
unfoldable pub fresh_size : DiskZone → ℕ
fresh_size z = (seq_row (reported z)).size

unfoldable pub at_mount : DiskZone → FileHistory
at_mount z = record { quiet = true; last_size = fresh_size z; recovered = false; read_only_at_mount = is_read_only z.condition }

-- ---- what events change of it; a call changes nothing

-- a fall of no block, a harm already done, and the fall of a pointer that means nothing are no mishap
unfoldable pub unmoved : DiskZone → DiskZone → Bool
unmoved z new = eqb (condition_code z.condition) (condition_code new.condition) && means (has_pointer z) (eqb z.pointer new.pointer)

-- a mishap made z `new`
unfoldable pub after_mishap : FileHistory → DiskZone → DiskZone → FileHistory
after_mishap h z new =
    record { quiet = h.quiet && unmoved z new; last_size = h.last_size; recovered = h.recovered; read_only_at_mount = h.read_only_at_mount }

-- the last size at a point where the file is quiet, or isn't, and its zone is z
abbrev pub last_size_at : Bool → DiskZone → ℕ → ℕ
last_size_at quiet z before = cond (quiet && is_healthy z.condition) (fresh_size z) before

-- a command was completed, after which the file is quiet, or isn't, and was recovered, or wasn't; its zone is now z
abbrev pub updated : FileHistory → DiskZone → Bool → Bool → FileHistory
updated h z quiet recovered =
    record { quiet = quiet; last_size = last_size_at quiet z h.last_size; recovered = recovered; read_only_at_mount = h.read_only_at_mount }

-- "a good read"; 02: open and close "done well count as a good read"
abbrev pub good_read : CommandKind → Bool
good_read k = is_read k || opens_or_closes k

-- of a command that was done: "other than a good read"
unfoldable pub after_success : FileHistory → Command → DiskZone → FileHistory
after_success h c z = updated h z (h.quiet || not (good_read c.kind)) h.recovered

-- "a read after which the zone was healthy and a fresh mount would have given the last size from before it"
abbrev pub harmless : CommandKind → DiskZone → ℕ → Bool
harmless k z before = is_read k && (is_healthy z.condition && eqb before (fresh_size z))

-- of a command that failed; a mishap that comes with the failure counts as before its completion
unfoldable pub after_failure : FileHistory → Command → DiskZone → FileHistory
after_failure h c z = updated h z true (h.recovered || not (harmless c.kind z h.last_size))

abbrev pub after_command : Bool → FileHistory → Command → DiskZone → FileHistory
after_command true h c z = after_success h c z
after_command false h c z = after_failure h c z
