-- What a mount answered 0 leaves is possible.
-- Assumes nothing.
use Prim.Native.Nat.{ℕ, ◌≤◌}
use native.Mathlib.Omega.{arith}
use mathlib.Core.Path.{◌≡◌, sym, subst}
use mathlib.Core.List.{List}
use lib.ListN.{length, get_or, length-drop}
use Rattle.types.specs.declared.Row.{Row}
use Rattle.types.specs.declared.FileKind.{FileKind}
use Rattle.types.specs.declared.FileKind.TheVariants.{Conventional, Sequential}
use Rattle.types.specs.declared.Outstanding.{Outstanding}
use Rattle.types.specs.declared.Outstanding.TheVariants.{Idle}
use Rattle.types.specs.Blocks.{block_sectors, most_files}
use Rattle.types.specs.Kinds.{of_kind, files_of}
use Rattle.types.proofs.Blocks.{is_block}
use Rattle.table.specs.Rows.{rows_lent}
use Rattle.files.proofs.Few.{seqs_few, cnvs_few}
use Rattle.report.specs.Report.{zones_of}
use Rattle.report.proofs.Laws.{GoodReport, report-told, framed, zones_length}
use Rattle.mount.specs.Mount.{file_zones, aggregated}
use Rattle.mount.proofs.Leaves.{cnvs, seqs, Accepts, leaves}
use Rattle.mount.proofs.Tables.{filled_row, fill-length}
use Rattle.account.specs.Counts.{TrueCounts}
use Rattle.account.proofs.Laws.{true_fits}
use Rattle.checks.proofs.Laws.{counts_in, row_sound}
use Rattle.engine.specs.Engine.{State, mounted}
use Rattle.consistency.specs.Possible.{IsFile, HeldPossible, RowPossible, Possible}
use Rattle.consistency.proofs.Bridge.{no_row}
use Rattle.consistency.proofs.Rows.{AllSound, sound_nth, idle_nth, seq_rows_sound, cnv_rows_sound}

module _ (block : ℕ) (superblock options report : List ℕ) (open_limit active_limit : ℕ) (cnv seq : List ℕ) (t : Accepts block superblock options report open_limit active_limit cnv seq) where
  abbrev plain : List Row
  plain = cnvs block superblock options report open_limit active_limit cnv seq

  abbrev written : List Row
  written = seqs block superblock options report open_limit active_limit cnv seq

  told : GoodReport (block_sectors block) report
  told = report-told (block_sectors block) report t.report

  -- zone 0 is no file's, so there is a file less than there can be zones
  zones_few : length (file_zones report) ≤ most_files
  unfolding file_zones
  zones_few = omega (arith, length-drop 1 (zones_of report), zones_length report, (framed report told.header).few)

  cnv_sound : AllSound block Conventional plain
  unfolding file_zones
  cnv_sound = cnv_rows_sound (is_block block t.unit) (aggregated superblock) (zones_of report) told.zones

  seq_sound : AllSound block Sequential written
  unfolding file_zones
  seq_sound = seq_rows_sound (is_block block t.unit) (zones_of report) told.zones

  abbrev state : State
  state = mounted (leaves block superblock options report open_limit active_limit cnv seq)

  nothing_held : (k : FileKind) (r : Row) (o : Outstanding) → o ≡ Idle → HeldPossible state.mount.volume k r o
  nothing_held k r o e = subst (HeldPossible state.mount.volume k r) (sym e) tt

  rows : (k : FileKind) (n : ℕ) → IsFile state k n → RowPossible state k n
  rows Conventional n h =
      record { row = get_or plain n no_row; reads = filled_row cnv plain n no_row h t.cnv_fit; sound = row_sound block Conventional _ (sound_nth cnv_sound n no_row h); held = nothing_held Conventional _ _ (idle_nth cnv_sound n no_row h) }
  rows Sequential n h =
      record { row = get_or written n no_row; reads = filled_row seq written n no_row h t.seq_fit; sound = row_sound block Sequential _ (sound_nth seq_sound n no_row h); held = nothing_held Sequential _ _ (idle_nth seq_sound n no_row h) }

  lent : (k : FileKind) → files_of k state.mount.volume ≤ rows_lent (of_kind k (length state.cnv) (length state.seq))
  lent Conventional = rw (fill-length cnv plain t.cnv_fit) t.cnv_fit
  lent Sequential = rw (fill-length seq written t.seq_fit) t.seq_fit

  few : (k : FileKind) → files_of k state.mount.volume ≤ most_files
  few Conventional = omega (arith, zones_few, cnvs_few (aggregated superblock) (file_zones report))
  few Sequential = omega (arith, zones_few, seqs_few (file_zones report))

  pub leaves_possible : TrueCounts state.mount state.seq → Possible (mounted (leaves block superblock options report open_limit active_limit cnv seq))
  leaves_possible account =
      record {
        counts = counts_in state.mount (length state.cnv) (length state.seq) lent few t.unit (true_fits state.mount state.seq account);
        account = account;
        rows = rows;
      }
