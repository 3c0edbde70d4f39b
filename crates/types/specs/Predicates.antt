-- Tests of a kind, a condition, an access, and of what is outstanding.
use Rattle.std.specs.Prelude.{Bool, true, false, not, ◌||◌}
use Rattle.types.specs.declared.FileKind.{FileKind}
use Rattle.types.specs.declared.FileKind.TheVariants.{Conventional, Sequential}
use Rattle.types.specs.declared.Condition.{Condition}
use Rattle.types.specs.declared.Condition.TheVariants as condition
use Rattle.types.specs.declared.Access.{Access}
use Rattle.types.specs.declared.Access.TheVariants as access
use Rattle.types.specs.declared.Outstanding.{Outstanding}
use Rattle.types.specs.declared.Outstanding.TheVariants.{Idle, Busy, Unknown}

-- "a means b"
abbrev pub means : Bool → Bool → Bool
means a b = not a || b

abbrev pub is_conventional : FileKind → Bool
is_conventional Conventional = true
is_conventional Sequential = false

-- "(healthy, read-only, offline)"
abbrev pub is_healthy : Condition → Bool
is_healthy condition.Healthy = true
is_healthy condition.ReadOnly = false
is_healthy condition.Offline = false

abbrev pub is_read_only : Condition → Bool
is_read_only condition.Healthy = false
is_read_only condition.ReadOnly = true
is_read_only condition.Offline = false

abbrev pub is_offline : Condition → Bool
is_offline condition.Healthy = false
is_offline condition.ReadOnly = false
is_offline condition.Offline = true

-- "access (write, read, none)"
abbrev pub is_none : Access → Bool
is_none access.Nothing = true
is_none access.Read = false
is_none access.Write = false

abbrev pub is_write : Access → Bool
is_write access.Nothing = false
is_write access.Read = false
is_write access.Write = true

-- "a command is outstanding", whatever it is: "calls don't examine the held command"
abbrev pub is_busy : Outstanding → Bool
is_busy Idle = false
is_busy (Busy c) = true
is_busy Unknown = true
