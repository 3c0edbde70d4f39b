-- "Success": the row of a file after a command that was done well.
use Rattle.std.specs.Prelude.{ℕ, ◌+◌}
use Rattle.types.specs.declared.Row.{Row}
use Rattle.types.specs.declared.FileKind.{FileKind}
use Rattle.types.specs.declared.FileKind.TheVariants.{Conventional, Sequential}
use Rattle.types.specs.declared.Command.{Command}
use Rattle.types.specs.declared.Movement.{Movement}
use Rattle.types.specs.declared.Movement.TheVariants.{Stays, Advances, ToStart, ToEnd}
use Rattle.types.specs.Commands.{movement_of}
use Rattle.table.specs.Rows.{with_size}

-- "a seq write adds its length to size"
abbrev pub appended : FileKind → ℕ → ℕ → ℕ
appended Conventional size length = size
appended Sequential size length = size + length

-- "a seq write adds its length to size, reset makes 0, finish capacity": by what the command moves
abbrev pub size_after : FileKind → Movement → ℕ → Row → ℕ
size_after k Stays length r = r.size
size_after k Advances length r = appended k r.size length
size_after k ToStart length r = 0
size_after k ToEnd length r = r.capacity

abbrev pub row_after : FileKind → Command → Row → Row
row_after k c r = with_size r (size_after k (movement_of c.kind) c.length r)
