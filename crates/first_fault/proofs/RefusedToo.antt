-- A report that the whole mount refuses is refused in pieces too.
-- Assumes nothing.
use Rattle.std.specs.Prelude.{Ok, Err}
use Prim.Native.Nat.{ℕ}
use native.Mathlib.Omega.{arith}
use mathlib.Core.Path.{◌≡◌, refl, sym, ap, ◌∙◌}
use mathlib.Core.List.{List}
use lib.ListN.{length}
use Rattle.types.specs.Blocks.{block_sectors}
use Rattle.types.specs.Verdicts.{and_then}
use Rattle.types.specs.declared.Refusal.{Refusal}
use Rattle.types.specs.declared.Refusal.TheVariants.{TooFewRows}
use Rattle.types.specs.Answers.{Verdict}
use Rattle.types.proofs.VerdictLaws.{check_passes, then_passes}
use Rattle.table.specs.Rows.{rows_lent}
use Rattle.superblock.specs.SuperBlock.{super_read, found_in}
use Rattle.options.specs.Options.{options_of}
use Rattle.report.proofs.Laws.{report_good}
use Rattle.mount.specs.Mount.{file_zones, aggregated, files_check, mount_check, answer_for, mount_answer_of, mount_answer, mount_outcome}
use Rattle.pieces.specs.Pieces.{Fed, Ended, begin_outcome, end_answer, end_outcome}
use Rattle.first_fault.specs.FirstFault.{end_fault}
use Rattle.first_fault.specs.Claims.{joined, started, in_pieces, RefusedToo}
use Rattle.first_fault.proofs.Zonewise.{not_both}
use Rattle.first_fault.proofs.FirstFault.{bytes_come}
use Rattle.first_fault.proofs.Faultless.{Whole, whole_told, faultless_told}
use Rattle.first_fault.proofs.Begun.{opening, rule, after, pieces_fed, ended}

-- an answer of 0 comes after checks that found nothing
passed_answer : (v : Verdict) (x y c s : ℕ) → answer_for v x y ≡ Ok (c, s) → v ≡ Ok tt
unfolding answer_for
passed_answer (Ok tt) x y c s h = refl
passed_answer (Err r) x y c s h = let z : ◌≡◌ {A = ℕ} 0 1 = cc in absurd (omega arith)

-- a refusal comes after checks that found it
pub refused_answer : (v : Verdict) (x y : ℕ) (r : Refusal) → answer_for v x y ≡ Err r → v ≡ Err r
unfolding answer_for
refused_answer (Ok tt) x y r h = let z : ◌≡◌ {A = ℕ} 0 1 = cc in absurd (omega arith)
refused_answer (Err q) x y r h = cc

-- and what the first of two finds is found
found_first : (v w : Verdict) (x y : Refusal) → v ≡ Err y → and_then v w ≡ Err x → y ≡ x
unfolding and_then
found_first (Ok tt) w x y e h = not_both e refl
found_first (Err q) w x y e h = cc

module _ (block : ℕ) (superblock options : List ℕ) (open_limit active_limit : ℕ) (cnv seq : List ℕ) (bs : List (List ℕ)) (x : Refusal)
    (refused : (mount_outcome block superblock options (joined bs) open_limit active_limit cnv seq).answer ≡ Err x) where
  -- its checks found x
  checked : mount_check block (found_in (super_read superblock)) (options_of options) (aggregated superblock) (joined bs) (rows_lent (length cnv)) (rows_lent (length seq))
      ≡ Err x
  unfolding mount_outcome mount_answer mount_answer_of
  checked = refused_answer _ _ _ x refused

  -- what begin refuses is refused alike
  same_refusal : (y : Refusal) → (begin_outcome block superblock options open_limit active_limit).answer ≡ Err y → y ≡ x
  unfolding begin_outcome mount_check
  same_refusal y e = found_first _ _ x y e checked

  -- where begin passes, a report without a fault would have been accepted
  no_whole : opening block superblock options open_limit active_limit cnv seq ≡ Ok tt
      → Whole (block_sectors block) (aggregated superblock) (rows_lent (length cnv)) (rows_lent (length seq)) (joined bs) → ⊥
  unfolding mount_check files_check file_zones
  no_whole passed w =
      let f = faultless_told _ _ _ _ (joined bs) w in
      not_both checked (then_passes passed (then_passes (report_good (block_sectors block) (joined bs) f.0) (check_passes TooFewRows f.1 refl)))

  -- so the end doesn't answer 0
  not_ended : opening block superblock options open_limit active_limit cnv seq ≡ Ok tt → (c s : ℕ)
      → end_answer (after block superblock options open_limit active_limit cnv seq (joined bs)).received.intake ≡ Ok (c, s) → ⊥
  not_ended passed c s e =
      no_whole passed
      (whole_told _ _ _ _ (joined bs)
      (sym (bytes_come (rule block superblock options open_limit active_limit cnv seq) (joined bs) cnv seq).ends ∙ passed_answer _ _ _ c s e))

  pub refused_too : let begin = begin_outcome block superblock options open_limit active_limit in
      RefusedToo x begin
      (end_fault (block_sectors block) (aggregated superblock) (rows_lent (length cnv)) (rows_lent (length seq)) (joined bs)) (end_outcome (in_pieces (started begin cnv seq) bs).pieces)
  unfolding begin_outcome
  refused_too =
      record {
        begins = same_refusal;
        faulty = λ passed none. no_whole passed (whole_told _ _ _ _ (joined bs) none);
        ends = λ passed c s e.
            not_ended passed c s
            (sym (ap (λ (f : Fed). (end_outcome f.pieces).answer) (pieces_fed block superblock options open_limit active_limit cnv seq passed bs)
            ∙ ap (λ (o : Ended). o.answer) (ended block superblock options open_limit active_limit cnv seq passed (joined bs)))
            ∙ e);
      }
