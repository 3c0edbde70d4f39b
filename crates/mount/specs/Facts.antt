-- What a mount that is not refused tells: the functions that fill its tables ask for it.
use Rattle.std.specs.Prelude.{ℕ, ◌≤◌, List, Bool, length}
use Rattle.zones.specs.Facts.{AllBounded}
use Rattle.files.specs.Files.{cnv_rows, seq_rows}
use Rattle.report.specs.Report.{zones_of}
use Rattle.report.specs.Facts.{Framed}
use Rattle.mount.specs.Mount.{file_zones}

-- the rows of a report's files can be stored in tables with so many rows
pub record Fits (aggregate : Bool) (b : List ℕ) (cnv_room seq_room : ℕ) : Type 0 where
  pub frame : Framed b
  pub bounded : AllBounded 0 (zones_of b)
  pub cnvs : length (cnv_rows aggregate (file_zones b)) ≤ cnv_room
  pub seqs : length (seq_rows (file_zones b)) ≤ seq_room
