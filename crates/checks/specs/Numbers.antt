-- The number and the values of what a lookup finds and of what the checks give: the refusal's, or 0 with the row's words.
use Rattle.std.specs.Prelude.{ℕ, List, Ok, Err, Some, None}
use Rattle.types.specs.declared.Refusal.TheVariants as refusal
use Rattle.types.specs.Numbers.{refusal_number, refusal_values}
use Rattle.table.specs.Rows.{row_words}
use Rattle.checks.specs.Checks.{Lookup}
use Rattle.checks.specs.Checks.{Checked}

-- "no such file", "tables impossible"
abbrev pub lookup_number : Lookup → ℕ
lookup_number (Some (Ok r)) = 0
lookup_number (Some (Err o)) = refusal_number refusal.Impossible
lookup_number None = refusal_number refusal.NoFile

abbrev pub lookup_values : Lookup → List ℕ
lookup_values (Some (Ok r)) = row_words r
lookup_values (Some (Err o)) = refusal_values refusal.Impossible
lookup_values None = refusal_values refusal.NoFile

abbrev pub checked_number : Checked → ℕ
checked_number (Ok r) = 0
checked_number (Err x) = refusal_number x

abbrev pub checked_values : Checked → List ℕ
checked_values (Ok r) = row_words r
checked_values (Err x) = refusal_values x
