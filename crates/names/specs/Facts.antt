-- What the reading of a name, and of its parts, tells whoever asks for it. No name is defined here.
use Rattle.std.specs.Prelude.{ℕ, ◌<◌, ◌≡◌, List, Option, Some, None}
use Rattle.text.specs.Text.{decimal}
use Rattle.types.specs.declared.FileKind.{FileKind}
use Rattle.types.specs.Blocks.{most_files}
use Rattle.names.specs.Names.{Name}
use Rattle.names.specs.Names.{prefix_of, name_of}

-- the first four bytes: the kind whose directory they name, or that they name none
abbrev pub KindTells : List ℕ → Option FileKind → Type 0
KindTells bytes (Some k) = bytes ≡ prefix_of k
KindTells bytes None = (k : FileKind) → bytes ≡ prefix_of k → ⊥

-- the rest: the number whose decimal it is, or that it is the decimal of no file's number
abbrev pub NumberTells : List ℕ → Option ℕ → Type 0
NumberTells bytes (Some n) = bytes ≡ decimal n
NumberTells bytes None = (n : ℕ) → n < most_files → bytes ≡ decimal n → ⊥

-- what the reading of a name tells: the file that it names, or that it is the name of no file that any mount has
abbrev pub NameTells : List ℕ → Name → Type 0
NameTells name (Some (k, n)) = name ≡ name_of k n
NameTells name None = (k : FileKind) (n : ℕ) → n < most_files → name ≡ name_of k n → ⊥
