-- A mount in pieces that begin has not refused: its pieces are their bytes taken one after the other, and what the end makes of them.
-- Assumes nothing.
use Rattle.std.specs.Prelude.{Ok}
use Prim.Native.Nat.{ℕ}
use mathlib.Core.Path.{◌≡◌, refl, ap, ◌∙◌}
use mathlib.Core.Bool.{true}
use mathlib.Core.List.{List}
use Rattle.types.specs.Answers.{Verdict}
use Rattle.types.specs.declared.Mount.{Mount}
use Rattle.superblock.specs.SuperBlock.{super_read, found_in, fields_in}
use Rattle.options.specs.Options.{options_of}
use Rattle.mount.specs.Mount.{aggregated, opening_check}
use Rattle.mount.proofs.Mounted.{opening_block}
use Rattle.intake.specs.declared.Rule.{Rule}
use Rattle.pieces.specs.declared.Pieces.{Pieces}
use Rattle.receiving.specs.Bytes.{Receiving, fed}
use Rattle.pieces.specs.Pieces.{Fed, found_mount, begun_with, begun_as, begin_outcome, possible_pieces, rule_of, received_by, fed_to, end_check, end_answer, end_mount, ended_as, end_outcome}
use Rattle.pieces.proofs.Possible.{possible_given}
use Rattle.receiving.proofs.Bounds.{nothing_received_lem}
use Rattle.first_fault.specs.Claims.{joined, started, in_pieces, untaken}
use Rattle.first_fault.proofs.Joined.{still_possible, pieces_join}

module _ (block : ℕ) (superblock options : List ℕ) (open_limit active_limit : ℕ) (cnv seq : List ℕ) where
  -- what begin finds
  abbrev pub opening : Verdict
  opening = opening_check block (found_in (super_read superblock)) (options_of options)

  abbrev pub found : Mount
  found = found_mount block (fields_in (super_read superblock)) (options_of options) open_limit active_limit

  abbrev pub held : Pieces
  held = begun_with found (aggregated superblock)

  -- by what the zones are taken, and what these bytes lead to
  abbrev pub rule : Rule
  rule = rule_of held

  abbrev pub after : List ℕ → Receiving
  after b = fed rule (untaken cnv seq) b

  abbrev pub begin : Fed
  begin = record { answer = Ok tt; pieces = held; cnv = cnv; seq = seq }

  module _ (passed : opening ≡ Ok tt) where
    begun : started (begin_outcome block superblock options open_limit active_limit) cnv seq ≡ begin
    unfolding begin_outcome begun_as
    begun = ap (λ (v : Verdict). record { answer = v; pieces = begun_as v found (aggregated superblock); cnv = cnv; seq = seq }) passed

    possible : possible_pieces held ≡ true
    possible = possible_given held (opening_block block (found_in (super_read superblock)) (options_of options) passed) nothing_received_lem

    pub pieces_fed : (bs : List (List ℕ)) → in_pieces (started (begin_outcome block superblock options open_limit active_limit) cnv seq) bs ≡ fed_to held (after (joined bs))
    pieces_fed bs = ap (λ (f : Fed). in_pieces f bs) begun ∙ pieces_join begin bs possible refl

    -- what the end makes of bytes
    pub ended : (b : List ℕ) → end_outcome (received_by held (after b).received) ≡ record {
      answer = end_answer (after b).received.intake;
      mount = end_mount (end_answer (after b).received.intake) found (after b).received.intake;
      pieces = received_by held (ended_as (after b).received (end_check (after b).received.intake));
    }
    unfolding end_outcome
    ended b = rw (still_possible begin possible b)
