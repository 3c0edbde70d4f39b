-- What a mount in pieces comes to, wherever they are cut; and that a refusal stays.
-- Assumes nothing.
use Rattle.std.specs.Prelude.{Ok, Err}
use Prim.Native.Nat.{ℕ}
use mathlib.Core.Path.{◌≡◌, sym, ap, ◌∙◌}
use mathlib.Core.Bool.{true}
use mathlib.Core.List.{List}
use Rattle.types.specs.Blocks.{block_sectors}
use Rattle.types.specs.Numbers.{mount_number}
use Rattle.types.specs.Verdicts.{and_then}
use Rattle.types.specs.declared.Refusal.{Refusal}
use Rattle.types.specs.Answers.{Verdict}
use Rattle.types.specs.Answers.{MountAnswer}
use Rattle.files.specs.Walk.{cnv_files}
use Rattle.mount.specs.Mount.{aggregated, answer_for}
use Rattle.intake.specs.declared.Intake.{Intake}
use Rattle.receiving.specs.Bytes.{Receiving}
use Rattle.receiving.proofs.Feeding.{fed_refused}
use Rattle.pieces.specs.declared.Pieces.{Pieces}
use Rattle.pieces.specs.Pieces.{Fed, Ended, begin_outcome, possible_pieces, rule_of, fed_to, piece_outcome, end_check, end_mount, ended_as, received_by, end_outcome}
use Rattle.first_fault.specs.Claims.{joined, started, in_pieces, PiecesCome, StaysRefused}
use Rattle.first_fault.proofs.FirstFault.{first_fault_lem}
use Rattle.first_fault.proofs.RefusedToo.{refused_answer}
use Rattle.first_fault.proofs.Begun.{found, rule, after, pieces_fed, ended}

pub pieces_come : (block : ℕ) (superblock options : List ℕ) (open_limit active_limit : ℕ) (cnv seq : List ℕ) (bs : List (List ℕ))
    → (begin_outcome block superblock options open_limit active_limit).answer ≡ Ok tt
    → let pieces = in_pieces (started (begin_outcome block superblock options open_limit active_limit) cnv seq) bs in
    PiecesCome (block_sectors block) (aggregated superblock) (joined bs) cnv seq pieces (end_outcome pieces.pieces)
unfolding begin_outcome answer_for
pieces_come block superblock options open_limit active_limit cnv seq bs passed =
    let come = first_fault_lem (rule block superblock options open_limit active_limit cnv seq) (joined bs) cnv seq in
    let here : Intake = (after block superblock options open_limit active_limit cnv seq (joined bs)).received.intake in
    let begun = found block superblock options open_limit active_limit cnv seq in
    let many = pieces_fed block superblock options open_limit active_limit cnv seq passed bs in
    let last =
    ap (λ (f : Fed). end_outcome f.pieces) many ∙ ended block superblock options open_limit active_limit cnv seq passed (joined bs) in
    let answered : (v : Verdict) → end_check here ≡ v → answer_for (end_check here) (cnv_files here.walk) here.walk.seqs ≡ answer_for v (cnv_files here.walk) here.walk.seqs =
    (λ v e. ap (λ (w : Verdict). answer_for w (cnv_files here.walk) here.walk.seqs) e) in
    record {
      answer = ap (λ (f : Fed). f.answer) many ∙ come.check;
      cnvs = ap (λ (f : Fed). f.cnv) many ∙ come.cnvs;
      seqs = ap (λ (f : Fed). f.seq) many ∙ come.seqs;
      refused = λ x e. (
        ap (λ (o : Ended). o.answer) last ∙ answered (Err x) (come.ends ∙ e),
        ap (λ (o : Ended). o.mount) last ∙ ap (λ (a : MountAnswer). end_mount a begun here) (answered (Err x) (come.ends ∙ e)),
      );
      mounted = λ e. ap mount_number (ap (λ (o : Ended). o.answer) last ∙ answered (Ok tt) (come.ends ∙ e));
    }

-- A REFUSAL STAYS

module _ (p : Pieces) (possible : possible_pieces p ≡ true) (x : Refusal) where
  pub stays_refused : p.received.intake.check ≡ Err x → (b cnv seq : List ℕ) → StaysRefused x p b cnv seq
  unfolding piece_outcome end_outcome end_check and_then answer_for
  stays_refused e b cnv seq =
      let s : Receiving = record { received = p.received; cnv = cnv; seq = seq } in
      let found : end_check p.received.intake ≡ Err x = rw e in
      record {
        piece = rw possible (ap (fed_to p) (fed_refused (rule_of p) s b x e)
            ∙ ap (λ (v : Verdict). record { answer = v; pieces = p; cnv = cnv; seq = seq }) e);
        ends = rw possible (ap (λ (v : Verdict). record {
          answer = answer_for v (cnv_files p.received.intake.walk) p.received.intake.walk.seqs;
          mount = end_mount (answer_for v (cnv_files p.received.intake.walk) p.received.intake.walk.seqs) p.mount p.received.intake;
          pieces = received_by p (ended_as p.received v);
        }) found
            ∙ ap (λ (v : Verdict). record { answer = Err x; mount = end_mount (Err x) p.mount p.received.intake; pieces = received_by p (ended_as p.received v) }) (sym e));
      }

  -- also one that comes at the end alone: bytes that were missing count no more
  pub end_final : (end_outcome p).answer ≡ Err x → (end_outcome p).pieces.received.intake.check ≡ Err x
  unfolding end_outcome
  end_final e = rw possible (refused_answer _ _ _ x (rw possible at e))
