-- "Every other failure applies 000's table, and the row's condition becomes the record's": the row of a file after a failed command.
use Rattle.std.specs.Prelude.{ℕ, Bool, cond, not, ◌&&◌, ◌||◌, eqb}
use Rattle.types.specs.declared.Row.{Row}
use Rattle.types.specs.declared.FileKind.{FileKind}
use Rattle.types.specs.declared.FileKind.TheVariants.{Conventional, Sequential}
use Rattle.types.specs.declared.CommandKind.{CommandKind}
use Rattle.types.specs.declared.Access.{Access}
use Rattle.types.specs.declared.Access.TheVariants as access
use Rattle.types.specs.declared.ErrorPolicy.{ErrorPolicy}
use Rattle.types.specs.Commands.{is_read, is_opening}
use Rattle.types.specs.Predicates.{is_write}
use Rattle.table.specs.Rows.{recovered_to, with_opens}
use Rattle.zones.specs.declared.Zone.{Zone}
use Rattle.zones.specs.Zone.{condition_of, healthy, written_size}
use Rattle.recovery.specs.declared.grid.Rule.{Rule}
use Rattle.recovery.specs.declared.grid.SizeRule.{SizeRule}
use Rattle.recovery.specs.declared.grid.SizeRule.TheVariants.{Fixed, AsIs, Zero}
use Rattle.recovery.specs.declared.grid.AccessRule.{AccessRule}
use Rattle.recovery.specs.declared.grid.AccessRule.TheVariants as rule
use Rattle.recovery.specs.Grid.{recovery_grid, rule_of}

-- "Fixed: seq by the record's pointer, cnv unchanged.", where 02 mends what a record of a full zone says
abbrev pub fixed_size : FileKind → Zone → ℕ → ℕ
fixed_size Conventional z size = size
fixed_size Sequential z size = written_size z

-- ---- "A failed read with .. recovers nothing."

-- "with a healthy record and, for seq, size equal to the pointer", which is mended by 02 "also in a failed read's test"
abbrev pub unharmed : FileKind → Zone → ℕ → Bool
unharmed k z size = healthy z && eqb size (fixed_size k z size)

abbrev pub nothing_lost : FileKind → CommandKind → Zone → ℕ → Bool
nothing_lost k failed z size = is_read failed && unharmed k z size

-- ---- "Every other failure"

-- the grid's element for the mount's option and the record's condition
abbrev pub recovery_rule : ErrorPolicy → Zone → Rule
recovery_rule p z = rule_of recovery_grid p (condition_of z)

abbrev pub ruled_size : SizeRule → FileKind → Zone → ℕ → ℕ
ruled_size Fixed k z size = fixed_size k z size
ruled_size AsIs k z size = size
ruled_size Zero k z size = 0

-- "Access never rises."
abbrev pub read_at_most : Access → Access
read_at_most access.Nothing = access.Nothing
read_at_most access.Read = access.Read
read_at_most access.Write = access.Read

abbrev pub ruled_access : AccessRule → Access → Access
ruled_access rule.Unchanged a = a
ruled_access rule.Read a = read_at_most a
ruled_access rule.Nothing a = access.Nothing

unfoldable pub recovered_row : ErrorPolicy → FileKind → Zone → Row → Row
recovered_row p k z r =
    recovered_to r (ruled_size (recovery_rule p z).size k z r.size) (condition_of z) (ruled_access (recovery_rule p z).access r.access)

-- ---- 02: "A file is open .. until .. a failed open or the loss of write access"

-- the row without opens where its command was an open, or where it has no write access now
abbrev pub kept_open : CommandKind → Row → Row
kept_open failed r = with_opens r (cond (is_opening failed || not (is_write r.access)) 0 r.opens)
