-- 9: "failed completion's zone record doesn't fit", and which test it fails first.
use Rattle.std.specs.Prelude.{ℕ, ◌+◌, List, [], ◌∷◌, ◌++◌, Bool, true, ◌&&◌, eqb, leb, Option}
use Rattle.types.specs.declared.Row.{Row}
use Rattle.types.specs.declared.FileKind.{FileKind}
use Rattle.types.specs.declared.FileKind.TheVariants.{Conventional, Sequential}
use Rattle.types.specs.declared.ZoneFault.{ZoneFault}
use Rattle.types.specs.declared.ZoneFault.TheVariants as fault
use Rattle.types.specs.Blocks.{bytes_of, block_sectors}
use Rattle.types.specs.Codes.{condition_code}
use Rattle.zones.specs.declared.Zone.{Zone}
use Rattle.zones.specs.Zone.{conventional, sequential, condition_of, good_record}
use Rattle.zones.specs.Faults.{ZoneTest, test, first_fault, record_tests}

-- "It must match a seq row's start and capacity and be sequential"
unfoldable pub matches_sequential : Row → Zone → Bool
matches_sequential r z = sequential z && eqb z.start r.start && eqb (bytes_of z.capacity) r.capacity

-- "or be conventional within the cnv file"
unfoldable pub within_conventional : Row → Zone → Bool
within_conventional r z =
    conventional z && leb r.start z.start && leb (bytes_of (z.start + z.length)) (bytes_of r.start + r.capacity)

-- the record is of this file's zone, or of one of them
abbrev pub of_file : FileKind → Row → Zone → Bool
of_file Conventional r z = within_conventional r z
of_file Sequential r z = matches_sequential r z

-- "its condition may not be better than a seq row's (healthy, read-only, offline)"
abbrev pub no_better : FileKind → Row → Zone → Bool
no_better Conventional r z = true
no_better Sequential r z = leb (condition_code r.condition) (condition_code (condition_of z))

-- "flag and checks as above, except that it need not start where another ended"; then as it stands to the file
unfoldable pub record_fits : ℕ → FileKind → Row → Zone → Bool
record_fits block k r z = good_record (block_sectors block) z && of_file k r z && no_better k r z

-- 02: "9 adds 8 not this file's zone, 9 a better condition"
abbrev pub file_tests : FileKind → Row → Zone → List ZoneTest
file_tests k r z = test (of_file k r z) fault.OtherZone ∷ test (no_better k r z) fault.BetterCondition ∷ []

-- to the record's own, which come first; its start is none of them, as "it need not start where another ended"
abbrev pub fit_tests : ℕ → FileKind → Row → Zone → List ZoneTest
fit_tests block k r z = record_tests (block_sectors block) z ++ file_tests k r z

-- the first of these that fails. A record fits exactly if there is none (the law `misfit_faultless`)
unfoldable pub misfit : ℕ → FileKind → Row → Zone → Option ZoneFault
misfit block k r z = first_fault (fit_tests block k r z)
