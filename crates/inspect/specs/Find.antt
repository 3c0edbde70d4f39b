-- Finding a name: the checks on the way to its file, and the answer.
use Rattle.std.specs.Prelude.{ℕ, List, cond, length, Ok, Err, Some, None}
use Rattle.types.specs.declared.Mount.{Mount}
use Rattle.types.specs.declared.FileKind.{FileKind}
use Rattle.types.specs.declared.Refusal.TheVariants as refusal
use Rattle.types.specs.Answers.{FindAnswer}
use Rattle.names.specs.Names.{Name}
use Rattle.names.specs.Names.{named}
use Rattle.checks.specs.Checks.{Checked}
use Rattle.checks.specs.Checks.{counts_fit, file_of}

abbrev pub found_file : FileKind → ℕ → Checked → FindAnswer
found_file k n (Ok r) = Ok (k, n)
found_file k n (Err x) = Err x

-- 1: "no such .. name"; then as of the file
abbrev pub found_name : Mount → List ℕ → List ℕ → Name → FindAnswer
found_name m cnv seq (Some (k, n)) = found_file k n (file_of m cnv seq k n)
found_name m cnv seq None = Err refusal.NoFile

-- 10 (counts), 1, 10 (row), "stops before 2"
abbrev pub find_of : Mount → List ℕ → List ℕ → List ℕ → FindAnswer
find_of m cnv seq name =
    cond (counts_fit m (length cnv) (length seq)) (found_name m cnv seq (named m.volume name)) (Err refusal.Impossible)
