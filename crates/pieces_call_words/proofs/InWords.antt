-- A mount in pieces that is kept in words between its calls gives exactly what it gives by value, and its words are never refused: begin that isn't refused,
-- any pieces, and the end.
-- Assumes nothing.
use Rattle.std.specs.Prelude.{Ok, Err}
use Prim.Native.Nat.{ℕ, ◌^◌, ◌<◌, ◌≤◌}
use native.Mathlib.Omega.{arith}
use mathlib.Core.Path.{◌≡◌, refl, sym, ap, ◌∙◌}
use mathlib.Core.Bool.{Bool, true}
use mathlib.Core.List.{List, [], ◌∷◌}
use borrow.Author.Tests.{le-leb}
use lib.Dec.{leb}
use lib.ListN.{length, get_or, take}
use Rattle.types.specs.Blocks.{good_block}
use Rattle.types.specs.declared.Refusal.TheVariants.{Impossible}
use Rattle.types.specs.Answers.{Verdict}
use Rattle.types.specs.declared.Mount.{Mount}
use Rattle.types.specs.Numbers.{refusal_number, verdict_number, verdict_values, mount_number, mount_values}
use Rattle.superblock.specs.SuperBlock.{super_read, found_in}
use Rattle.options.specs.Options.{options_of}
use Rattle.mount.specs.Mount.{answer_for}
use Rattle.mount.proofs.Mounted.{opening_block}
use Rattle.pieces.specs.declared.Pieces.{Pieces}
use Rattle.pieces.specs.Pieces.{Fed, Beginning, begun_with, begun_as, begin_outcome, possible_pieces, rule_of, received_by, piece_outcome, end_check, end_outcome}
use Rattle.pieces.proofs.Possible.{possible-told, possible_given}
use Rattle.receiving.proofs.Bounds.{nothing_received_lem, fed_bounded}
use Rattle.first_fault.specs.Claims.{started, in_pieces}
use Rattle.answer_words.specs.Answers.{answer_length, answer_words, written}
use Rattle.pieces_words.specs.Words.{HoldsPieces}
use Rattle.pieces_call_words.specs.Words.{roomy, begin_given, readable, AfterPiece, told_piece, piece_given, mount_fits, told_end, end_given}
use Rattle.pieces_call_words.specs.Claims.{AllBytes, begun_in, given_in, PiecesInWords, EndInWords}
use Rattle.pieces_words.proofs.Back.{Findable, passed, report, zone, rows, BoundedPieces, pieces_written}
use Rattle.pieces_call_words.proofs.Held.{begun_held, piece_held, end_held}

-- what a report leads to isn't 10
not_ten : {v : Verdict} → Findable v → verdict_number v ≡ refusal_number Impossible → ⊥
not_ten passed e = omega arith
not_ten report e = omega arith
not_ten (zone small low high) e = omega arith
not_ten rows e = omega arith

-- an answer's words, in front of others
answer_front : (a values : List ℕ) → take answer_length (written a (answer_words values)) ≡ answer_words values
unfolding written answer_words
answer_front a values = refl

answer_room_lem : (a values : List ℕ) → leb answer_length (length (written a (answer_words values))) ≡ true
unfolding written answer_words
answer_room_lem a values =
    let long : answer_length ≤ length (written a (answer_words values)) = omega arith in
    le-leb _ _ long

-- THE VALUE STAYS POSSIBLE

pub piece_possible : (p : Pieces) (bytes cnv seq : List ℕ) → possible_pieces p ≡ true → possible_pieces (piece_outcome p bytes cnv seq).pieces ≡ true
unfolding piece_outcome
piece_possible p bytes cnv seq can =
    let told = possible-told p can in
    rw can (possible_given (received_by p _) told.0 (fed_bounded (rule_of p) (record { received = p.received; cnv = cnv; seq = seq }) bytes told.1))

piece_answer : (p : Pieces) (bytes cnv seq : List ℕ) → possible_pieces p ≡ true
    → (piece_outcome p bytes cnv seq).answer ≡ (piece_outcome p bytes cnv seq).pieces.received.intake.check
unfolding piece_outcome
piece_answer p bytes cnv seq can = rw can

-- ONE CALL: the words hold a value that can be held, and the answer has room

module _ (w a : List ℕ) (p : Pieces) (holds : HoldsPieces w p) (can : possible_pieces p ≡ true) (room : leb answer_length (length a) ≡ true) where
  piece_given_lem : (bytes cnv seq : List ℕ) → piece_given w bytes cnv seq a ≡ told_piece w a (piece_outcome p bytes cnv seq)
  unfolding piece_given readable
  piece_given_lem bytes cnv seq = rw (holds.1, holds.0, room, can)

  end_given_lem : (m u : List ℕ) → mount_fits (length m) (length u) ≡ true → end_given w m u a ≡ told_end w m u a (end_outcome p)
  unfolding end_given readable
  end_given_lem m u fits = rw (holds.1, holds.0, room, can, fits)

-- ALL PIECES

-- after any of them
record Kept (s : AfterPiece) (f : Fed) : Type 0 where
  bounded : BoundedPieces f.pieces
  possible : possible_pieces f.pieces ≡ true
  answered : f.answer ≡ f.pieces.received.intake.check
  room : leb answer_length (length s.answer) ≡ true
  number : s.number ≡ verdict_number f.answer
  answer : take answer_length s.answer ≡ answer_words (verdict_values f.answer)
  pieces : HoldsPieces s.pieces f.pieces
  cnv : s.cnv ≡ f.cnv
  seq : s.seq ≡ f.seq

module _ (s : AfterPiece) (f : Fed) (k : Kept s f) where
  shown : PiecesInWords s f
  shown =
      record {
        number = k.number;
        answer = k.answer;
        pieces = k.pieces;
        cnv = k.cnv;
        seq = k.seq;
        possible = λ e. not_ten k.bounded.check (ap verdict_number (sym k.answered) ∙ sym k.number ∙ e);
      }

  next : (b : List ℕ) → ((i : ℕ) → get_or b i 0 < 256) → Kept (piece_given s.pieces b s.cnv s.seq s.answer) (piece_outcome f.pieces b f.cnv f.seq)
  next b small =
      let o = piece_outcome f.pieces b f.cnv f.seq in
      let held = piece_held f.pieces k.bounded b f.cnv f.seq small in
      rw (k.cnv, k.seq, piece_given_lem s.pieces s.answer f.pieces k.pieces k.possible k.room b f.cnv f.seq)
      (record {
        bounded = held;
        possible = piece_possible f.pieces b f.cnv f.seq k.possible;
        answered = piece_answer f.pieces b f.cnv f.seq k.possible;
        room = answer_room_lem s.answer (verdict_values o.answer);
        number = refl;
        answer = answer_front s.answer (verdict_values o.answer);
        pieces = pieces_written s.pieces o.pieces held;
        cnv = refl;
        seq = refl;
      })

kept : (s : AfterPiece) (f : Fed) (bs : List (List ℕ)) → AllBytes bs → Kept s f → Kept (given_in s bs) (in_pieces f bs)
unfolding AllBytes given_in in_pieces
kept s f [] small k = k
kept s f (b ∷ bs) small k =
    kept (piece_given s.pieces b s.cnv s.seq s.answer) (piece_outcome f.pieces b f.cnv f.seq) bs small.1 (next s f k b small.0)

-- THE END

answer_number_lem : (v : Verdict) (c s : ℕ) → mount_number (answer_for v c s) ≡ verdict_number v
unfolding answer_for
answer_number_lem (Ok tt) c s = refl
answer_number_lem (Err x) c s = refl

-- it answers what it found
end_number : (p : Pieces) → possible_pieces p ≡ true → mount_number (end_outcome p).answer ≡ verdict_number (end_outcome p).pieces.received.intake.check
unfolding end_outcome
end_number p can = rw can (answer_number_lem (end_check p.received.intake) _ _)

end_shown : (s : AfterPiece) (f : Fed) (m u : List ℕ) → Kept s f → mount_fits (length m) (length u) ≡ true
    → EndInWords m u (end_given s.pieces m u s.answer) (end_outcome f.pieces)
end_shown s f m u k fits =
    let o = end_outcome f.pieces in
    let held = end_held f.pieces k.bounded in
    rw (end_given_lem s.pieces s.answer f.pieces k.pieces k.possible k.room m u fits)
    (record {
      number = refl;
      answer = answer_front s.answer (mount_values o.answer);
      pieces = pieces_written s.pieces o.pieces held;
      mount = refl;
      account = refl;
      possible = λ e. not_ten held.check (sym (end_number f.pieces k.possible) ∙ e);
    })

-- BEGIN, ANY PIECES, THE END

begun_check : (v : Verdict) (m : Mount) (aggregate : Bool) → (begun_as v m aggregate).received.intake.check ≡ Ok tt
unfolding begun_as
begun_check (Ok tt) m aggregate = refl
begun_check (Err x) m aggregate = refl

begun-possible : (v : Verdict) (m : Mount) (aggregate : Bool) → v ≡ Ok tt → good_block m.volume.block ≡ true → possible_pieces (begun_as v m aggregate) ≡ true
unfolding begun_as
begun-possible v m aggregate e good = rw e (possible_given (begun_with m aggregate) good nothing_received_lem)

module _ (block : ℕ) (superblock options : List ℕ) (open_limit active_limit : ℕ) where
  abbrev pub begin : Beginning
  begin = begin_outcome block superblock options open_limit active_limit

  begins_possible : begin.answer ≡ Ok tt → possible_pieces begin.pieces ≡ true
  unfolding begin_outcome
  begins_possible e = begun-possible _ _ _ e (opening_block block (found_in (super_read superblock)) (options_of options) e)

  begins_answer : begin.answer ≡ Ok tt → begin.answer ≡ begin.pieces.received.intake.check
  unfolding begin_outcome
  begins_answer e = e ∙ sym (begun_check _ _ _)

  module _ (w a cnv seq : List ℕ) (bytes : (k : ℕ) → get_or superblock k 0 < 256) (first : open_limit < 2 ^ 32) (second : active_limit < 2 ^ 32)
      (room : roomy (length w) (length a) ≡ true) (e : begin.answer ≡ Ok tt) (bs : List (List ℕ)) (small : AllBytes bs) where
    begun_kept : Kept (begun_in (begin_given block superblock options open_limit active_limit w a) cnv seq) (started begin cnv seq)
    unfolding begin_given
    begun_kept =
        let held = begun_held block superblock options open_limit active_limit bytes first second in
        rw room
        (record {
          bounded = held;
          possible = begins_possible e;
          answered = begins_answer e;
          room = answer_room_lem a (verdict_values begin.answer);
          number = refl;
          answer = answer_front a (verdict_values begin.answer);
          pieces = pieces_written w begin.pieces held;
          cnv = refl;
          seq = refl;
        })

    -- what the calls leave, and what the definitions give
    abbrev pub words : AfterPiece
    words = given_in (begun_in (begin_given block superblock options open_limit active_limit w a) cnv seq) bs

    abbrev pub value : Fed
    value = in_pieces (started begin cnv seq) bs

    all_kept : Kept words value
    all_kept = kept _ _ bs small begun_kept

    pub pieces_in_words : PiecesInWords words value
    pieces_in_words = shown words value all_kept

    -- a mount in pieces that was begun can be gone on with, whatever has come
    pub still_possible : possible_pieces value.pieces ≡ true
    still_possible = all_kept.possible

    pub end_in_words : (m u : List ℕ) → mount_fits (length m) (length u) ≡ true
        → EndInWords m u (end_given words.pieces m u words.answer) (end_outcome value.pieces)
    end_in_words m u fits = end_shown words value m u all_kept fits
