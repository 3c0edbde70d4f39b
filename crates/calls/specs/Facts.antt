-- What a call's checks tell once they are passed. No outcome is defined here.
use Rattle.std.specs.Prelude.{ℕ, ◌≡◌, List}
use Rattle.types.specs.declared.Mount.{Mount}
use Rattle.types.specs.declared.Row.{Row}
use Rattle.types.specs.declared.FileKind.{FileKind}
use Rattle.types.specs.declared.Outstanding.TheVariants.{Idle}
use Rattle.checks.specs.Facts.{Reached}

-- 10 (counts), 1, 10 (row) and 2 are passed
pub record Admitted (m : Mount) (cnv seq : List ℕ) (k : FileKind) (i : ℕ) (r : Row) : Type 0 where
  pub reached : Reached m cnv seq k i r
  pub idle : r.outstanding ≡ Idle
