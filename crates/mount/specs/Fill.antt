-- A table that is filled with rows: "Rows past the files are untouched."
use Rattle.std.specs.Prelude.{ℕ, ◌*◌, List, [], ◌∷◌, ◌++◌, length, drop}
use Rattle.types.specs.declared.Row.{Row}
use Rattle.table.specs.Rows.{row_width, row_words}

-- the words of rows, one row after the other
unfoldable pub rows_words : List Row → List ℕ
rows_words [] = []
rows_words (r ∷ rs) = row_words r ++ rows_words rs

-- the table with these rows first, and after them as it was
unfoldable pub fill : List ℕ → List Row → List ℕ
fill t rows = rows_words rows ++ drop (length rows * row_width) t
