-- A report that the whole mount accepts gives the same in pieces, wherever it is cut.
-- Assumes nothing.
use Rattle.std.specs.Prelude.{Ok}
use Prim.Native.Nat.{ℕ}
use mathlib.Core.Path.{◌≡◌, refl, sym, ap, ◌∙◌}
use mathlib.Core.Bool.{false, not}
use mathlib.Core.List.{List}
use borrow.Author.Tests.{le-ltb}
use lib.Dec.{ltb}
use lib.ListN.{length}
use Rattle.types.specs.Blocks.{block_sectors}
use Rattle.types.specs.Numbers.{mount_number}
use Rattle.types.specs.declared.Refusal.TheVariants.{BadBlock, BadOptions}
use Rattle.types.specs.Answers.{Verdict}
use Rattle.types.specs.declared.Row.{Row}
use Rattle.types.specs.Answers.{MountAnswer}
use Rattle.types.proofs.VerdictLaws.{check_passes, then_passed, then_passes}
use Rattle.table.specs.Rows.{rows_lent}
use Rattle.account.specs.Account.{is_active}
use Rattle.account.specs.Counts.{count_in}
use Rattle.options.specs.Options.{options_of}
use Rattle.files.specs.declared.Walk.{Walk}
use Rattle.files.specs.Files.{cnv_rows, seq_rows}
use Rattle.files.specs.Walk.{cnv_files}
use Rattle.files.proofs.Walks.{cnv_count_lem, seq_count}
use Rattle.report.specs.Report.{zones_of}
use Rattle.report.proofs.Laws.{report-told}
use Rattle.mount.specs.Fill.{fill}
use Rattle.mount.specs.Mount.{Mounting, bad_options, file_zones, explicit_of, aggregated, opening_check, answer_for, mount_outcome}
use Rattle.mount.proofs.Leaves.{Accepts, accepts, leaves, mount_leaves}
use Rattle.intake.specs.declared.Intake.{Intake}
use Rattle.intake.specs.declared.Rule.{Rule}
use Rattle.receiving.specs.Bytes.{Receiving}
use Rattle.pieces.specs.Pieces.{Fed, Ended, begin_outcome, end_check, with_files, end_mount, end_answer, end_outcome}
use Rattle.first_fault.specs.Claims.{joined, started, in_pieces, AcceptedAlike}
use Rattle.first_fault.proofs.Fold.{AllTaken}
use Rattle.first_fault.proofs.Arrived.{Arrived}
use Rattle.first_fault.proofs.FirstFault.{bytes_come}
use Rattle.first_fault.proofs.Faultless.{Whole, whole_given, faultless_given}
use Rattle.first_fault.proofs.AllFinished.{cnv_finished, seq_finished}
use Rattle.first_fault.proofs.Begun.{opening, found, rule, after, pieces_fed, ended}

module _ (block : ℕ) (superblock options : List ℕ) (open_limit active_limit : ℕ) (cnv seq : List ℕ) (bs : List (List ℕ)) where
  abbrev report : List ℕ
  report = joined bs

  abbrev how : Rule
  how = rule block superblock options open_limit active_limit cnv seq

  -- what the bytes lead to
  abbrev here : Receiving
  here = after block superblock options open_limit active_limit cnv seq report

  abbrev taken : Intake
  taken = here.received.intake

  -- its files, and what the whole mount leaves
  abbrev cnvs : List Row
  cnvs = cnv_rows (aggregated superblock) (file_zones report)

  abbrev seqs : List Row
  seqs = seq_rows (file_zones report)

  abbrev left : Mounting
  left = leaves block superblock options report open_limit active_limit cnv seq

  module _ (t : Accepts block superblock options report open_limit active_limit cnv seq) where
    -- begin passes
    opened : opening block superblock options open_limit active_limit cnv seq ≡ Ok tt
    unfolding opening_check
    opened = check_passes BadBlock (ap not t.unit) (then_passes t.super (check_passes BadOptions (ap bad_options t.options) refl))

    -- nothing is wrong with its bytes, neither so far nor at the end
    whole : Whole (block_sectors block) (aggregated superblock) (rows_lent (length cnv)) (rows_lent (length seq)) report
    unfolding file_zones
    whole =
        let wide : ltb (rows_lent (length cnv)) (length cnvs) ≡ false = le-ltb (rows_lent (length cnv)) (length cnvs) t.cnv_fit in
        let deep : ltb (rows_lent (length seq)) (length seqs) ≡ false = le-ltb (rows_lent (length seq)) (length seqs) t.seq_fit in
        faultless_given _ _ _ _ report (report-told (block_sectors block) report t.report) (rw (wide, deep))

    come : Arrived how report cnv seq here
    come = bytes_come how report cnv seq

    ended_well : end_check taken ≡ Ok tt
    ended_well = come.ends ∙ whole_given _ _ _ _ report whole

    all : AllTaken how (record { intake = taken; cnv = here.cnv; seq = here.seq }) (zones_of report)
    all = come.whole ended_well

    -- the same files, and as many of them active
    cnv_number : cnv_files taken.walk ≡ length cnvs
    unfolding file_zones
    cnv_number = ap cnv_files all.walk ∙ cnv_count_lem (aggregated superblock) (zones_of report)

    seq_number : taken.walk.seqs ≡ length seqs
    unfolding file_zones
    seq_number = ap (λ (w : Walk). w.seqs) all.walk ∙ seq_count (aggregated superblock) (zones_of report)

    cnv-same : here.cnv ≡ left.cnv
    cnv-same = come.cnvs ∙ ap (fill cnv) (cnv_finished _ _ _ _ report whole)

    seq-same : here.seq ≡ left.seq
    seq-same = come.seqs ∙ ap (fill seq) (seq_finished _ _ _ _ report whole)

    active_same : taken.active ≡ count_in (is_active (explicit_of (options_of options))) left.seq (length seqs)
    active_same =
        all.active
        ∙ ap (count_in (is_active (explicit_of (options_of options))) here.seq) seq_number
        ∙ ap (λ (l : List ℕ). count_in (is_active (explicit_of (options_of options))) l (length seqs)) seq-same

    -- so the same answer and mount value
    answered : end_answer taken ≡ left.answer
    unfolding answer_for
    answered =
        ap (λ (v : Verdict). answer_for v (cnv_files taken.walk) taken.walk.seqs) ended_well
        ∙ ap (λ (n : ℕ). Ok (n, taken.walk.seqs)) cnv_number
        ∙ ap (λ (n : ℕ). Ok (length cnvs, n)) seq_number

    mount_same : end_mount (end_answer taken) (found block superblock options open_limit active_limit cnv seq) taken ≡ left.mount
    mount_same =
        ap (λ (a : MountAnswer). end_mount a (found block superblock options open_limit active_limit cnv seq) taken) answered
        ∙ ap (with_files (found block superblock options open_limit active_limit cnv seq) (length cnvs) (length seqs)) active_same

  pub accepted_alike : (c s : ℕ) → (mount_outcome block superblock options (joined bs) open_limit active_limit cnv seq).answer ≡ Ok (c, s)
      → let begin = begin_outcome block superblock options open_limit active_limit in
      let pieces = in_pieces (started begin cnv seq) bs in
      AcceptedAlike (mount_outcome block superblock options (joined bs) open_limit active_limit cnv seq) begin pieces (end_outcome pieces.pieces) c s
  unfolding begin_outcome end_check
  accepted_alike c s e =
      let t = accepts block superblock options report open_limit active_limit cnv seq (ap mount_number e) in
      let one = mount_leaves block superblock options report open_limit active_limit cnv seq t in
      let many = pieces_fed block superblock options open_limit active_limit cnv seq (opened t) bs in
      let last =
      ap (λ (f : Fed). end_outcome f.pieces) many ∙ ended block superblock options open_limit active_limit cnv seq (opened t) report in
      record {
        begins = opened t;
        passes = ap (λ (f : Fed). f.answer) many ∙ (then_passed taken.check (ended_well t)).0;
        ends = ap (λ (o : Ended). o.answer) last ∙ answered t ∙ sym (ap (λ (o : Mounting). o.answer) one) ∙ e;
        mount = ap (λ (o : Ended). o.mount) last ∙ mount_same t ∙ sym (ap (λ (o : Mounting). o.mount) one);
        cnv = ap (λ (f : Fed). f.cnv) many ∙ cnv-same t ∙ sym (ap (λ (o : Mounting). o.cnv) one);
        seq = ap (λ (f : Fed). f.seq) many ∙ seq-same t ∙ sym (ap (λ (o : Mounting). o.seq) one);
      }
