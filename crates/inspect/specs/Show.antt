-- Showing a file: its row, and the mode.
use Rattle.std.specs.Prelude.{ℕ, ◌-◌, List, Bool, cond, length, Ok, Err}
use Rattle.std.specs.Int.Bits.{bit_and}
use Rattle.types.specs.declared.Mount.{Mount}
use Rattle.types.specs.declared.FileKind.{FileKind}
use Rattle.types.specs.declared.Access.{Access}
use Rattle.types.specs.declared.Access.TheVariants as access
use Rattle.types.specs.Answers.{ShowAnswer}
use Rattle.types.specs.Codes.{is_kind, kind_from}
use Rattle.checks.specs.Checks.{Checked}
use Rattle.checks.specs.Checks.{no_kind, file_of}

-- octal 0222: the bits that let owner, group and others write
abbrev pub write_bits : ℕ
write_bits = 0o222

-- "less 0222": those of the bits that the mode has are cleared
abbrev pub less_writing : ℕ → ℕ
less_writing mode = mode - bit_and mode write_bits

-- "The mode shown is the mount's, less 0222 where access is read or the mount is read-only, 0 where none."
abbrev pub mode_shown : Bool → Access → ℕ → ℕ
mode_shown readonly access.Nothing mode = 0
mode_shown readonly access.Read mode = less_writing mode
mode_shown readonly access.Write mode = cond readonly (less_writing mode) mode

abbrev pub shown : Mount → Checked → ShowAnswer
shown m (Ok r) = Ok (r, mode_shown m.readonly r.access m.volume.mode)
shown m (Err x) = Err x

-- 10 (counts), 1, 10 (row), "stops before 2"
abbrev pub show_of : Mount → List ℕ → List ℕ → FileKind → ℕ → ShowAnswer
show_of m cnv seq k i = shown m (file_of m cnv seq k i)

-- of a kind that is given as a number: "kind byte 0 cnv or 1 seq", "a kind above 1 answers 1"
unfoldable pub show_by : Mount → List ℕ → List ℕ → ℕ → ℕ → ShowAnswer
show_by m cnv seq n i =
    cond (is_kind n) (show_of m cnv seq (kind_from n) i) (Err (no_kind m (length cnv) (length seq)))
