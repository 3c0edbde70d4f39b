-- A disk that is zone 0 alone: the report of a record that is good as a report's first, and a mount with it.
-- Assumes nothing.
use Rattle.std.specs.Prelude.{Ok, None}
use Prim.Native.Nat.{ℕ}
use mathlib.Core.Path.{◌≡◌, refl, ap}
use mathlib.Core.Bool.{Bool, true, false, not}
use mathlib.Core.List.{List, [], ◌∷◌}
use lib.ListN.{length, drop}
use borrow.Author.Tests.{eqb-true, not-false}
use Rattle.types.specs.declared.Refusal.TheVariants.{BadBlock, BadReport, BadOptions, TooFewRows, BadZone}
use Rattle.types.specs.Blocks.{block_sectors, good_block}
use Rattle.types.proofs.VerdictLaws.{check_passed, check_passes, then_passes}
use Rattle.wire.specs.Le.{le, little}
use Rattle.options.specs.Options.{split, skip_empty, options_of}
use Rattle.zones.specs.Zone.{zone_bytes, zone_at}
use Rattle.files.specs.Files.{cnv_rows, seq_rows, runs}
use Rattle.report.specs.Report.{good_header, zones_from, zones_of, report_check}
use Rattle.mount.specs.Mount.{file_zones, too_few, opening_check, files_check, mount_check}
use Rattle.format.specs.Format.{record_check}
use Rattle.format.specs.Promises.{alone}

header : (given : Bool) (zone : List ℕ) → length zone ≡ zone_bytes → good_header (alone given zone) ≡ true
unfolding good_header le little
header true zone e = rw e
header false zone e = rw e

only : (given : Bool) (zone : List ℕ) → zones_of (alone given zone) ≡ zone_at given zone 0 ∷ []
unfolding zones_of zones_from le little
only true zone = refl
only false zone = refl

-- and it has no file
no_files : (given : Bool) (zone : List ℕ) → file_zones (alone given zone) ≡ []
unfolding file_zones
no_files given zone = ap (drop 1) (only given zone)

module _ (block : ℕ) (given : Bool) (zone : List ℕ) (unit : good_block block ≡ true) (first : record_check (block_sectors block) given zone ≡ Ok tt) where
  good_report : report_check (block_sectors block) (alone given zone) ≡ Ok tt
  unfolding report_check record_check
  good_report =
      let (size, good) = check_passed (BadZone 0 None) first in
      check_passes BadReport (ap not (header given zone (eqb-true _ _ (not-false _ size)))) (rw (only given zone) good)

  opening : opening_check block (Ok tt) (options_of []) ≡ Ok tt
  unfolding opening_check options_of split skip_empty
  opening = check_passes BadBlock (ap not unit) (then_passes refl (check_passes BadOptions refl refl))

  room : (aggregate : Bool) → too_few 0 0 (length (cnv_rows aggregate (file_zones (alone given zone)))) (length (seq_rows (file_zones (alone given zone)))) ≡ false
  unfolding cnv_rows runs seq_rows
  room aggregate = rw (no_files given zone)

  pub mounts_alone : (aggregate : Bool) → mount_check block (Ok tt) (options_of []) aggregate (alone given zone) 0 0 ≡ Ok tt
  unfolding mount_check files_check
  mounts_alone aggregate = then_passes opening (then_passes good_report (check_passes TooFewRows (room aggregate) refl))
