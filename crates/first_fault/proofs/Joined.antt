-- Pieces one after the other do what their bytes do together, wherever they are cut.
-- Assumes nothing.
use Prim.Native.Nat.{ℕ}
use mathlib.Core.Path.{◌≡◌, refl, sym, ap, ◌∙◌}
use mathlib.Core.Bool.{true}
use mathlib.Core.List.{List, [], ◌∷◌}
use Rattle.receiving.specs.Bytes.{Receiving, fed}
use Rattle.pieces.specs.Pieces.{Fed, possible_pieces, rule_of, received_by, fed_to, piece_outcome}
use Rattle.receiving.proofs.Feeding.{fed_join}
use Rattle.pieces.proofs.Possible.{possible-told, possible_given}
use Rattle.receiving.proofs.Bounds.{fed_bounded}
use Rattle.first_fault.specs.Claims.{joined, in_pieces}

-- what a piece goes on from
abbrev pub receiving : Fed → Receiving
receiving f = record { received = f.pieces.received; cnv = f.cnv; seq = f.seq }

module _ (f : Fed) (possible : possible_pieces f.pieces ≡ true) where
  -- a value that can be held is taken as it is
  piece_fed : (b : List ℕ) → piece_outcome f.pieces b f.cnv f.seq ≡ fed_to f.pieces (fed (rule_of f.pieces) (receiving f) b)
  unfolding piece_outcome
  piece_fed b = rw possible

  -- and leaves one
  pub still_possible : (b : List ℕ) → possible_pieces (received_by f.pieces (fed (rule_of f.pieces) (receiving f) b).received) ≡ true
  still_possible b =
      let told = possible-told f.pieces possible in
      possible_given (received_by f.pieces _) told.0 (fed_bounded (rule_of f.pieces) (receiving f) b told.1)

pub pieces_join : (f : Fed) (bs : List (List ℕ)) → possible_pieces f.pieces ≡ true → f.answer ≡ f.pieces.received.intake.check
    → in_pieces f bs ≡ fed_to f.pieces (fed (rule_of f.pieces) (receiving f) (joined bs))
unfolding in_pieces joined fed
pieces_join f [] possible e = ap (λ v. record { answer = v; pieces = f.pieces; cnv = f.cnv; seq = f.seq }) e
pieces_join f (b ∷ bs) possible e =
    let s = fed (rule_of f.pieces) (receiving f) b in
    ap (λ (g : Fed). in_pieces g bs) (piece_fed f possible b)
    ∙ pieces_join (fed_to f.pieces s) bs (still_possible f possible b) refl
    ∙ ap (fed_to f.pieces) (sym (fed_join (rule_of f.pieces) (receiving f) b (joined bs)))
