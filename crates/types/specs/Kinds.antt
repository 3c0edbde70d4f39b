-- What there is of each kind of file.
use Rattle.std.specs.Prelude.{ℕ}
use Rattle.types.specs.declared.Volume.{Volume}
use Rattle.types.specs.declared.FileKind.{FileKind}
use Rattle.types.specs.declared.FileKind.TheVariants.{Conventional, Sequential}

-- of two things, that of the conventional and that of the sequential files
abbrev pub of_kind : {A : Type 0} → FileKind → A → A → A
of_kind Conventional cnv seq = cnv
of_kind Sequential cnv seq = seq

-- how many files of a kind a mount has
abbrev pub files_of : FileKind → Volume → ℕ
files_of k v = of_kind k v.conventional v.sequential
