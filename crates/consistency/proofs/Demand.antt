-- Demand 3 holds, and what stands beside it.
-- Assumes nothing.
use Rattle.std.specs.Prelude.{Ok}
use mathlib.Core.Bool.{Bool, true, false, cond}
use mathlib.Core.List.{List, map}
use mathlib.Core.Path.{◌≡◌, refl, sym, ap, ◌∙◌, subst}
use Prim.Native.Nat.{ℕ, suc, ◌<◌}
use native.Mathlib.Omega.{arith}
use lib.ListN.{length, get_or, drop, length-map}
use Rattle.types.specs.declared.Row.{Row}
use Rattle.types.specs.declared.Volume.{Volume}
use Rattle.types.specs.declared.Command.{Command}
use Rattle.types.specs.declared.FileKind.{FileKind}
use Rattle.types.specs.declared.FileKind.TheVariants.{Conventional, Sequential}
use Rattle.types.specs.declared.Outstanding.TheVariants.{Idle, Busy}
use Rattle.types.specs.declared.Effect.{Effect}
use Rattle.types.specs.Codes.{kind_from}
use Rattle.types.specs.Kinds.{files_of}
use Rattle.types.specs.Numbers.{answer_number}
use Rattle.types.specs.Blocks.{block_sectors}
use Rattle.types.proofs.Blocks.{is_block}
use Rattle.table.specs.Rows.{row_at}
use Rattle.options.specs.Options.{options_of}
use Rattle.zones.specs.declared.Zone.{Zone}
use Rattle.report.specs.Report.{zone_count, zones_of}
use Rattle.files.specs.Files.{cnv_rows, seq_rows}
use Rattle.mount.specs.Fill.{fill}
use Rattle.mount.specs.Mount.{Mounting, file_zones, policy_of, aggregated, mount_outcome}
use Rattle.report.proofs.Laws.{framed, zones_length, AllGood, report-told, report_good}
use Rattle.completion.specs.Completions.{completion_by, effect_of}
use Rattle.completion.proofs.Laws.{effect_fixes}
use Rattle.table.proofs.Stores.{of_stored}
use Rattle.engine.specs.Engine.{Input, applied}
use Rattle.engine.specs.Engine as engine
use Rattle.consistency.specs.Possible.{Possible, MountedPossible, NeverImpossible, FilesAreFound}
use Rattle.consistency.proofs.Possible.{mounted-possible, never_impossible, files_are_found}
use Rattle.disk.specs.Disk.{DiskZone, Choice}
use Rattle.disk.specs.Facts.{Shows, ShowsZones}
use Rattle.disk.specs.Facts as shows
use Rattle.disk.proofs.Shows.{shows-told, report-shows, record_shows}
use Rattle.disk.proofs.SoundZone.{SoundZone}
use Rattle.disk.proofs.Reported.{record_shown, record_small, sound_at, disk-shown, report_bytes_lem}
use Rattle.disk.proofs.Found.{zone_found, zones_found}
use Rattle.consistency.specs.System.{System, outstanding_on, Event, run, all_truthful, mounted, zone_of, history_of, perform_in}
use Rattle.consistency.specs.Claim.{AsPromised}
use Rattle.consistency.specs.Demand.{Compares, Start, History, after, Fresh, fresh_mount, Consistent, Demand3, AlwaysStarted, AlwaysReported, Recorded, AlwaysRecorded, AlwaysDigested, AlwaysAnswered}
use Rattle.consistency.proofs.Shown.{shown_row}
use Rattle.consistency.proofs.Promised.{promised}
use Rattle.consistency.proofs.Bridge.{no_row, fill-listed}
use Rattle.consistency.proofs.Files.{files_sound, kinds}
use Rattle.consistency.proofs.Effects.{Completed}
use Rattle.consistency.proofs.Busy.{row_on, busy_kind, kind_on, completion_on}
use Rattle.consistency.proofs.Steps.{Invariant, invariant_run, known, new, Told, truthful-told, performed_sound, seq-completed, cnv-completed, replied}
use Rattle.mount.proofs.Leaves.{cnvs, seqs, Accepts, accepts, leaves, mount_leaves}
use Rattle.consistency.proofs.Start.{files_start, covers_start, covers_nth}
use Rattle.consistency.proofs.Fresh.{all_good, seq_count, file_shown, cnv_count_lem}

module _ (block : ℕ) (superblock options report : List ℕ) (open_limit active_limit : ℕ) (cnv seq : List ℕ) where
  -- the system that it leaves
  invariant_mounted : Accepts block superblock options report open_limit active_limit cnv seq → (disk : List DiskZone) → ShowsZones (zones_of report) disk → let new = leaves block superblock options report open_limit active_limit cnv seq in Possible (engine.mounted new) → Invariant new.mount.volume (kinds disk) (mounted new disk)
  unfolding mounted file_zones
  invariant_mounted t disk ws possible =
      let b = is_block block t.unit in
      let good = (report-told (block_sectors block) report t.report).zones in
      record {
        same = refl;
        block = b;
        zones = refl;
        rows = seqs block superblock options report open_limit active_limit cnv seq;
        listed = fill-listed seq _ t.seq_fit;
        files = files_start b (policy_of (options_of options)) ws good;
        plain = cnvs block superblock options report open_limit active_limit cnv seq;
        plainly = fill-listed cnv _ t.cnv_fit;
        covers = λ n h. covers_nth (covers_start b (aggregated superblock) ws good) n h;
        possible = possible;
      }

  -- after any list of truthful events
  invariant_from : (disk : List DiskZone) → Start block superblock options report open_limit active_limit cnv seq disk → (events : List Event) → let first = mounted (mount_outcome block superblock options report open_limit active_limit cnv seq) disk in
      all_truthful first events ≡ true → Invariant (leaves block superblock options report open_limit active_limit cnv seq).mount.volume (kinds disk) (run first events)
  unfolding MountedPossible
  invariant_from disk s events =
      let t = accepts block superblock options report open_limit active_limit cnv seq s.answer in
      let shown = shows-told report disk s.shown in
      let left = mount_leaves block superblock options report open_limit active_limit cnv seq t in
      let possible = subst (λ (o : Mounting). Possible (engine.mounted o)) left (mounted-possible block superblock options report open_limit active_limit cnv seq s.answer) in
      rw left (invariant_run (invariant_mounted t disk shown.zones possible) events)

module _ (h : History) where
  abbrev w : System
  w = after h

  abbrev fixed : Volume
  fixed = (leaves h.block h.superblock h.options h.report h.open_limit h.active_limit h.cnv h.seq).mount.volume

  shown : Shows h.report h.disk
  shown = shows-told h.report h.disk h.start.shown

  invariant : Invariant fixed (kinds h.disk) w
  invariant = invariant_from h.block h.superblock h.options h.report h.open_limit h.active_limit h.cnv h.seq h.disk h.start h.events h.honest

  first : Accepts h.block h.superblock h.options h.report h.open_limit h.active_limit h.cnv h.seq
  first = accepts h.block h.superblock h.options h.report h.open_limit h.active_limit h.cnv h.seq h.start.answer

  same_block : w.state.mount.volume.block ≡ h.block
  same_block = ap (λ (v : Volume). v.block) invariant.same

  same_policy : w.state.mount.volume.policy ≡ policy_of (options_of h.options)
  same_policy = ap (λ (v : Volume). v.policy) invariant.same

  same_files : w.state.mount.volume.sequential ≡ length (seq_rows (file_zones h.report))
  same_files = ap (λ (v : Volume). v.sequential) invariant.same

  -- A FRESH MOUNT
  module _ (f : Fresh h) where
    seen : Shows f.report w.disk
    seen = shows-told f.report w.disk f.shown

    seqs_again : length (seq_rows (file_zones f.report)) ≡ w.state.mount.volume.sequential
    unfolding file_zones
    seqs_again = seq_count invariant.files seen.zones

    cnvs_again : length (cnv_rows (aggregated h.superblock) (file_zones f.report)) ≡ length (cnv_rows (aggregated h.superblock) (file_zones h.report))
    unfolding file_zones
    cnvs_again = cnv_count_lem (aggregated h.superblock) seen.zones shown.zones invariant.zones

    again : Accepts h.block h.superblock h.options f.report h.open_limit h.active_limit f.cnv f.seq
    again = record {
      unit = first.unit;
      super = first.super;
      options = first.options;
      report = report_good (block_sectors h.block) f.report
          (record { header = seen.header; zones = subst (λ n. AllGood (block_sectors n) 0 (zones_of f.report)) same_block (all_good invariant.files seen.zones) });
      cnvs = refl;
      seqs = refl;
      cnv_fit = rw (cnvs_again, f.cnv_long) first.cnv_fit;
      seq_fit = rw (seqs_again, same_files, f.seq_long) first.seq_fit;
    }

    fresh_row : (n : ℕ) → n < w.state.mount.volume.sequential → row_at (fill f.seq (seq_rows (file_zones f.report))) n ≡ Ok (shown_row (zone_of w n))
    unfolding file_zones
    fresh_row n l =
        let inside : n < length (seq_rows (drop 1 (zones_of f.report))) = omega (arith, l, seq_count invariant.files seen.zones) in
        (fill-listed f.seq (seq_rows (drop 1 (zones_of f.report))) again.seq_fit).row n inside ∙ ap Ok (file_shown invariant.files seen.zones n l).row

    compares : (n : ℕ) → n < w.state.mount.volume.sequential → outstanding_on w.state Sequential n ≡ Idle → (history_of w n).quiet ≡ true
        → Compares (policy_of (options_of h.options)) (history_of w n) (zone_of w n) (fill f.seq (seq_rows (file_zones f.report))) w.state.seq n
    compares n l i q = record {
      row = get_or invariant.rows n no_row;
      other = shown_row (zone_of w n);
      here = invariant.listed.row n l;
      there = fresh_row n l;
      promised = subst (λ p. AsPromised p (history_of w n) (zone_of w n) (shown_row (zone_of w n)) (get_or invariant.rows n no_row)) same_policy (promised (file_shown invariant.files seen.zones n l).agrees q);
    }

    consistent : Consistent (policy_of (options_of h.options)) w (fresh_mount h f)
    consistent =
        let g = mount_leaves h.block h.superblock h.options f.report h.open_limit h.active_limit f.cnv f.seq again in
        record { answer = rw g; files = rw g seqs_again; rows = rw g compares }

-- THE CLAIM
pub demand3 : Demand3
unfolding Demand3
demand3 h f = consistent h f

-- A COMPLETION is answered 0 or 7, and then its file holds nothing.
reply_number : (t : Bool) (c : Command) (r : Row) → answer_number (replied t c r) ≡ cond t 0 7
reply_number true c r = refl
reply_number false c r = refl

module _ (h : History) (k : FileKind) (n : ℕ) (c : Command) (e : outstanding_on (after h).state k n ≡ Busy c) (o : Choice) (given : Bool) (bytes : List ℕ) where
  abbrev done : Effect
  done = effect_of (after h).state.mount (after h).state.cnv (after h).state.seq k n (completion_by (perform_in (after h) c o).succeeded given bytes)

  completed_so : (k : FileKind) (e : outstanding_on (after h).state k n ≡ Busy c) → Told (after h) c o given bytes → let x = new (invariant h) k n c e o given bytes in
      Completed (after h).state.cnv (after h).state.seq k n x (replied (perform_in (after h) c o).succeeded c x)
      (effect_of (after h).state.mount (after h).state.cnv (after h).state.seq k n (completion_by (perform_in (after h) c o).succeeded given bytes))
  completed_so Sequential e told = seq-completed (invariant h) n c o given bytes told e
  completed_so Conventional e told = cnv-completed (invariant h) n c o given bytes told e

  file_digested : Told (after h) c o given bytes → (answer_number done.outcome.answer ≡ cond (perform_in (after h) c o).succeeded 0 7) × (outstanding_on (applied (after h).state done) k n ≡ Idle)
  file_digested told =
      let g = completed_so k e told in
      let s = (after h).state in
      let fixes = effect_fixes s.mount s.cnv s.seq k n (completion_by (perform_in (after h) c o).succeeded given bytes) in
      let there = subst (λ (v : Volume). n < files_of k v) (sym fixes.0) (known (invariant h) k n c e) in
      let new = new (invariant h) k n c e o given bytes in (
        ap answer_number g.answer ∙ reply_number (perform_in (after h) c o).succeeded c new,
        row_on (applied s done) k n new there (ap (λ (t : List ℕ). row_at t n) (of_stored k done.store s.cnv s.seq) ∙ g.here.here),
      )

pub always_digested : AlwaysDigested
unfolding AlwaysDigested engine.step
always_digested h kind n c e o given bytes t =
    let (is, on) = busy_kind (after h).state kind n c e in
    let (number, idle) = file_digested h (kind_from kind) n c on o given bytes (truthful-told (after h) kind n c e o given bytes t) in
    let same = completion_on (after h).state kind n (completion_by (perform_in (after h) c o).succeeded given bytes) is in
    record { number = rw same number; idle = rw same (kind_on (applied (after h).state (done h (kind_from kind) n c on o given bytes)) kind n is ∙ idle) }

-- A REPORT that shows the disk
shown-length : {rs : List Zone} {zs : List DiskZone} → ShowsZones rs zs → length rs ≡ length zs
shown-length shows.none = refl
shown-length (shows.next w ws) = ap suc (shown-length ws)

kinds_length : (zs ys : List DiskZone) → kinds zs ≡ kinds ys → length zs ≡ length ys
kinds_length zs ys e = sym (length-map zs (λ (z : DiskZone). z.kind)) ∙ ap length e ∙ length-map ys (λ (z : DiskZone). z.kind)

pub always_reported : AlwaysReported
unfolding AlwaysReported
always_reported h =
    let r = invariant h in
    let same : length (after h).disk ≡ zone_count h.report = kinds_length (after h).disk h.disk r.zones ∙ sym (shown-length (shown h).zones) ∙ zones_length h.report in
    let frame = framed h.report (shown h).header in
    record {
      bytes = report_bytes_lem (after h).disk;
      shown = report-shows (disk-shown (files_sound r.files) (omega (arith, same, frame.some)) (omega (arith, same, frame.few)));
    }

-- A RECORD that shows a zone
recorded : {b : ℕ} {z : DiskZone} → SoundZone b z → Recorded z
recorded {z = z} s = record { bytes = record_small z; shown = record_shows (record_shown s) }

pub always_recorded : AlwaysRecorded
unfolding AlwaysRecorded
always_recorded h = record {
  zones = λ i l. recorded (sound_at (files_sound (invariant h).files) i l);
  doings = λ kind n c e o. recorded (performed_sound (invariant h) (kind_from kind) n c o (busy_kind (after h).state kind n c e).1);
}

-- A DISK that a mount's report shows
pub always_started : AlwaysStarted
unfolding AlwaysStarted
always_started block superblock options report open_limit active_limit cnv seq zeroed =
    let t = accepts block superblock options report open_limit active_limit cnv seq zeroed in
    let good = report-told (block_sectors block) report t.report in
    let shown = zones_found (block_sectors block) 0 (zones_of report) good.zones in
    (map zone_found (zones_of report), record { answer = zeroed; shown = report-shows (record { header = good.header; zones = shown }) })

-- A CALL is never answered 10, nor 1 where there is a file.
pub always_answered : AlwaysAnswered
unfolding AlwaysAnswered NeverImpossible FilesAreFound
always_answered h kind n x =
    let p = (invariant h).possible in
    record { possible = never_impossible (after h).state (Input.call kind n x) p; found = λ k l. files_are_found (after h).state (Input.call kind n x) p (k, l) }
