-- What storing a row asks for. No outcome is defined here.
use Rattle.std.specs.Prelude.{ℕ, ◌<◌, List, length, Some, None}
use Rattle.types.specs.Kinds.{of_kind}
use Rattle.table.specs.Rows.{rows_lent}
use Rattle.types.specs.Answers.{Store}

-- the row that is stored is one of its table's
abbrev pub StoreFits : List ℕ → List ℕ → Store → Type 0
StoreFits cnv seq None = Unit
StoreFits cnv seq (Some (k, i, r)) = i < rows_lent (length (of_kind k cnv seq))
