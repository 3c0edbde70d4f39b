-- Names: "Names are `cnv/` or `seq/` and a decimal without a leading zero: `seq/07` and `seq/1 ` match nothing."
use Rattle.std.specs.Prelude.{ℕ, zero, suc, List, [], ◌∷◌, ◌++◌, cond, Option, Some, None}
use Rattle.text.specs.Text.{ascii, same, decimal}
use Rattle.types.specs.declared.Volume.{Volume}
use Rattle.types.specs.declared.FileKind.{FileKind}
use Rattle.types.specs.declared.FileKind.TheVariants.{Conventional, Sequential}
use Rattle.types.specs.declared.Refusal.TheVariants.{NoFile}
use Rattle.types.specs.Codes.{kind_code}
use Rattle.types.specs.Numbers.{refusal_number}

-- what a name says: a file, or nothing
abbrev pub Name : Type 0
Name = Option (FileKind × ℕ)

-- "`cnv/` or `seq/`"
abbrev pub prefix_of : FileKind → List ℕ
prefix_of Conventional = ascii "cnv/"
prefix_of Sequential = ascii "seq/"

-- the name of file n of a kind
unfoldable pub name_of : FileKind → ℕ → List ℕ
name_of k n = prefix_of k ++ decimal n

-- the file of a kind, among so many, whose name it is
unfoldable pub file_named : FileKind → ℕ → List ℕ → Name
file_named k zero name = None
file_named k (suc n) name = cond (same name (name_of k n)) (Some (k, n)) (file_named k n name)

abbrev pub or_else : Name → Name → Name
or_else (Some (k, n)) other = Some (k, n)
or_else None other = other

-- the file of a mount whose name it is
unfoldable pub named : Volume → List ℕ → Name
named v name = or_else (file_named Conventional v.conventional name) (file_named Sequential v.sequential name)

-- what a name says, in numbers: 1, "no such file or name", or 0 with the kind's code and the number
abbrev pub name_number : Name → ℕ
name_number (Some (k, n)) = 0
name_number None = refusal_number NoFile

abbrev pub name_values : Name → List ℕ
name_values (Some (k, n)) = kind_code k ∷ n ∷ []
name_values None = []
