-- What a mount that is not refused tells, and what gives it.
-- Assumes nothing.
use Rattle.std.specs.Prelude.{Ok, Err, Some, None, Result}
use mathlib.Core.Path.{◌≡◌, refl, ap, ◌∙◌, sym}
use mathlib.Core.List.{List}
use mathlib.Core.Bool.{Bool, true, false, not}
use Prim.Native.Nat.{ℕ, ◌≤◌}
use native.Mathlib.Omega.{arith}
use borrow.Author.Tests.{ltb-false, not-false, le-ltb}
use lib.ListN.{length, drop, length-drop}
use lib.Dec.{ltb}
use Rattle.types.specs.Blocks.{block_sectors, good_block, most_files}
use Rattle.types.specs.Verdicts.{refuse, and_then}
use Rattle.types.specs.declared.Refusal.{Refusal}
use Rattle.types.specs.declared.Refusal.TheVariants.{BadBlock, BadOptions, TooFewRows}
use Rattle.types.specs.Answers.{Verdict}
use Rattle.types.specs.declared.Mount.{Mount}
use Rattle.types.specs.Answers.{MountAnswer}
use Rattle.types.proofs.Tests.{or_left, or_right}
use Rattle.types.proofs.VerdictLaws.{check_passed, check_passes, then_passed, then_passes, given, not_given}
use Rattle.table.specs.Rows.{rows_lent}
use Rattle.superblock.specs.declared.SuperBlock.{SuperBlock}
use Rattle.superblock.specs.SuperBlock.{super_read, found_in, fields_in}
use Rattle.options.specs.Options.{options_of}
use Rattle.options.specs.Options.{Options}
use Rattle.files.specs.declared.Walk.{Walk}
use Rattle.files.specs.Files.{cnv_rows, seq_rows}
use Rattle.files.specs.Walk.{begun, walked, cnv_files}
use Rattle.files.proofs.Few.{seqs_few, cnvs_few}
use Rattle.files.proofs.Walks.{cnv_count_lem, seq_count}
use Rattle.report.specs.Report.{zones_of, report_check, report_read}
use Rattle.report.proofs.Laws.{report-told, framed, all_bounded, zones_length}
use Rattle.mount.specs.Mount.{bad_options, file_zones, too_few, opening_check, files_check, mount_check, answer_for, mount_answer_of, policy_of, explicit_of, mount_of, table_after, aggregated, mount_answer, mount_outcome}
use Rattle.mount.specs.Facts.{Fits}

-- THE CHECKS, passed

options_told : (o : Options) → bad_options o ≡ false → o ≡ Some (record { policy = policy_of o; explicit = explicit_of o })
options_told (Some a) h = refl
options_told None h = let z : ◌≡◌ {A = ℕ} 0 1 = cc in absurd (omega arith)

pub opening_block : (block : ℕ) (found : Verdict) (o : Options) → opening_check block found o ≡ Ok tt → good_block block ≡ true
unfolding opening_check
opening_block block found o h = not-false (good_block block) (check_passed BadBlock h).0

-- an answer of 0 comes after checks that found nothing
answered : (v : Verdict) (x y c s : ℕ) → answer_for v x y ≡ Ok (c, s) → (v ≡ Ok tt) × (x ≡ c) × (y ≡ s)
unfolding answer_for
answered (Ok _) x y c s h =
    let both : ◌≡◌ {A = ℕ × ℕ} (x, y) (c, s) = cc in
    (refl, ap (λ (p : ℕ × ℕ). p.0) both, ap (λ (p : ℕ × ℕ). p.1) both)
answered (Err r) x y c s h = let z : ◌≡◌ {A = ℕ} 0 1 = cc in absurd (omega arith)

-- the walk over a good report has counted its files; of another there is no walk
module _ (block : ℕ) (aggregate : Bool) (b : List ℕ) (cnv_room seq_room : ℕ) where
  pub files_answer : (w : Walk) → report_read (block_sectors block) aggregate b ≡ Ok w
      → answer_for (refuse (too_few cnv_room seq_room (cnv_files w) w.seqs) TooFewRows (Ok tt)) (cnv_files w) w.seqs
      ≡ answer_for (files_check block aggregate b cnv_room seq_room) (length (cnv_rows aggregate (file_zones b))) (length (seq_rows (file_zones b)))
  unfolding files_check file_zones and_then
  files_answer w e =
      let zs = zones_of b in
      let so = given (report_check (block_sectors block) b) e in
      rw (so.0, sym (ap cnv_files (sym so.1) ∙ cnv_count_lem aggregate zs), sym (ap (λ (w : Walk). w.seqs) (sym so.1) ∙ seq_count aggregate zs))

  pub files_refused : {x : Refusal} → report_read (block_sectors block) aggregate b ≡ Err x → Err x ≡ answer_for (files_check block aggregate b cnv_room seq_room) (length (cnv_rows aggregate (file_zones b))) (length (seq_rows (file_zones b)))
  unfolding files_check and_then answer_for
  files_refused e = rw (not_given (report_check (block_sectors block) b) (walked aggregate begun (zones_of b)) e)

-- AN ANSWER OF 0

-- what it tells, and what gives it
pub record Accepted (block : ℕ) (found : Verdict) (parsed : Options) (aggregate : Bool) (b : List ℕ) (cnv_room seq_room c s : ℕ) : Type 0 where
  pub unit : good_block block ≡ true
  pub super : found ≡ Ok tt
  pub options : parsed ≡ Some (record { policy = policy_of parsed; explicit = explicit_of parsed })
  pub report : report_check (block_sectors block) b ≡ Ok tt
  pub cnvs : c ≡ length (cnv_rows aggregate (file_zones b))
  pub seqs : s ≡ length (seq_rows (file_zones b))
  pub cnv_fit : c ≤ cnv_room
  pub seq_fit : s ≤ seq_room

module _ (block : ℕ) (found : Verdict) (parsed : Options) (aggregate : Bool) (b : List ℕ) (cnv_room seq_room c s : ℕ) where
  pub answer_told : mount_answer_of block found parsed aggregate b cnv_room seq_room ≡ Ok (c, s) → Accepted block found parsed aggregate b cnv_room seq_room c s
  unfolding mount_answer_of mount_check opening_check files_check
  answer_told h =
      let cs = length (cnv_rows aggregate (file_zones b)) in
      let ss = length (seq_rows (file_zones b)) in
      let all = answered _ cs ss c s h in
      let parts = then_passed _ all.0 in
      let one = check_passed BadBlock parts.0 in
      let two = then_passed found one.1 in
      let three = check_passed BadOptions two.1 in
      let four = then_passed _ parts.1 in
      let five = check_passed TooFewRows four.1 in
      record {
        unit = not-false (good_block block) one.0;
        super = two.0;
        options = options_told parsed three.0;
        report = four.0;
        cnvs = sym all.1;
        seqs = sym all.2;
        cnv_fit = omega (arith, all.1, ltb-false cnv_room cs (or_left (ltb cnv_room cs) (ltb seq_room ss) five.0));
        seq_fit = omega (arith, all.2, ltb-false seq_room ss (or_right (ltb cnv_room cs) (ltb seq_room ss) five.0));
      }

  pub answer_given : Accepted block found parsed aggregate b cnv_room seq_room c s → mount_answer_of block found parsed aggregate b cnv_room seq_room ≡ Ok (c, s)
  unfolding mount_answer_of mount_check opening_check files_check answer_for
  answer_given a =
      let cs = length (cnv_rows aggregate (file_zones b)) in
      let ss = length (seq_rows (file_zones b)) in
      let wide : ltb cnv_room cs ≡ false = le-ltb cnv_room cs (omega (arith, a.cnvs, a.cnv_fit)) in
      let deep : ltb seq_room ss ≡ false = le-ltb seq_room ss (omega (arith, a.seqs, a.seq_fit)) in
      let opening : opening_check block found parsed ≡ (Ok tt) =
      check_passes BadBlock (ap not a.unit) (then_passes a.super (check_passes BadOptions (ap bad_options a.options) refl)) in
      let files : files_check block aggregate b cnv_room seq_room ≡ (Ok tt) =
      then_passes a.report (check_passes TooFewRows (rw (wide, deep)) refl) in
      rw (then_passes opening files, a.cnvs, a.seqs)

  -- so the rows can be stored
  pub answer_fits : mount_answer_of block found parsed aggregate b cnv_room seq_room ≡ Ok (c, s) → Fits aggregate b cnv_room seq_room
  answer_fits h =
      let a = answer_told h in
      let good = report-told (block_sectors block) b a.report in
      record {
        frame = framed b good.header;
        bounded = all_bounded (block_sectors block) 0 (zones_of b) good.zones;
        cnvs = omega (arith, a.cnvs, a.cnv_fit);
        seqs = omega (arith, a.seqs, a.seq_fit);
      }

  -- zone 0 is no file's, so there is one file less than there can be zones
  pub answer_few : Accepted block found parsed aggregate b cnv_room seq_room c s → (c ≤ most_files) × (s ≤ most_files)
  unfolding file_zones
  answer_few a =
      let few = (framed b (report-told _ b a.report).header).few in
      let zs = drop 1 (zones_of b) in
      let files : length zs ≤ most_files = omega (arith, length-drop 1 (zones_of b), zones_length b) in
      (omega (arith, a.cnvs, cnvs_few aggregate zs), omega (arith, a.seqs, seqs_few zs))

-- THE OUTCOME, from its parts as the code finds them
module _ (block : ℕ) (sb text b : List ℕ) (open_limit active_limit : ℕ) (cnv seq : List ℕ) where
  pub outcome_is : {read : Result SuperBlock Refusal} {parsed : Options} {cnvs seqs : ℕ} {answer : MountAnswer} {mount : Mount} {cnv' seq' : List ℕ}
      → read ≡ super_read sb → parsed ≡ options_of text → cnvs ≡ rows_lent (length cnv) → seqs ≡ rows_lent (length seq)
      → answer ≡ mount_answer_of block (found_in read) parsed (fields_in read).aggregate b cnvs seqs
      → cnv' ≡ table_after answer cnv (cnv_rows (fields_in read).aggregate (file_zones b))
      → seq' ≡ table_after answer seq (seq_rows (file_zones b))
      → mount ≡ mount_of answer block (fields_in read) parsed open_limit active_limit seq'
      → (answer ≡ (mount_outcome block sb text b open_limit active_limit cnv seq).answer) × (mount ≡ (mount_outcome block sb text b open_limit active_limit cnv seq).mount)
      × (cnv' ≡ (mount_outcome block sb text b open_limit active_limit cnv seq).cnv) × (seq' ≡ (mount_outcome block sb text b open_limit active_limit cnv seq).seq)
  unfolding mount_outcome mount_answer
  outcome_is {answer = answer} r p c s a t u m =
      let answered : answer ≡ mount_answer block sb text b open_limit active_limit cnv seq = cc in
      (answered, cc, cc, cc)

-- AN OUTCOME OF 0, and what gives it

module _ (block : ℕ) (sb text b : List ℕ) (open_limit active_limit : ℕ) (cnv seq : List ℕ) (c s : ℕ) where
  pub mounted-told : (mount_outcome block sb text b open_limit active_limit cnv seq).answer ≡ Ok (c, s)
      → Accepted block (found_in (super_read sb)) (options_of text) (aggregated sb) b (rows_lent (length cnv)) (rows_lent (length seq)) c s
  unfolding mount_outcome mount_answer
  mounted-told answered = answer_told block _ _ _ b _ _ c s answered

  pub mounted_given : Accepted block (found_in (super_read sb)) (options_of text) (aggregated sb) b (rows_lent (length cnv)) (rows_lent (length seq)) c s
      → (mount_outcome block sb text b open_limit active_limit cnv seq).answer ≡ Ok (c, s)
  unfolding mount_outcome mount_answer
  mounted_given a = answer_given block _ _ _ b _ _ c s a
