-- What a record that fits tells: functions that are called only after check 9 ask for it. No outcome is defined here.
use Rattle.std.specs.Prelude.{◌≡◌, true}
use Rattle.types.specs.declared.FileKind.{FileKind}
use Rattle.types.specs.declared.FileKind.TheVariants.{Sequential}
use Rattle.zones.specs.declared.Zone.{Zone}
use Rattle.zones.specs.Zone.{sequential, says_size}
use Rattle.zones.specs.Facts.{Bounded}

-- of a record that fits a file of this kind
pub record Fitting (k : FileKind) (z : Zone) : Type 0 where
  pub bounded : Bounded z
  pub alike : k ≡ Sequential → sequential z ≡ true

-- of one that gives the file's size: a sequential file's by what a healthy zone says
pub record Sizing (k : FileKind) (z : Zone) : Type 0 where
  pub bounded : Bounded z
  pub saying : k ≡ Sequential → says_size z ≡ true
