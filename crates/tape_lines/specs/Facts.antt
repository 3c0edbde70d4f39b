-- The room that the functions which put a line ask for. No line is defined here.
use Rattle.std.specs.Prelude.{ℕ, ◌+◌, ◌*◌}
use Rattle.text.specs.Facts.{field_bytes}

abbrev pub two_fields : ℕ
two_fields = 2 * field_bytes

-- after an answer's number: three values at most, or a command's letter and two
abbrev pub values_room : ℕ
values_room = 3 * field_bytes

abbrev pub answer_room : ℕ
answer_room = field_bytes + values_room

-- no line is longer: a mark, a file, an answer and the line feed
abbrev pub line_room : ℕ
line_room = 136
