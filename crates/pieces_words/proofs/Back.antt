-- A mount in pieces put into words and read back is the same, whatever stands behind it.
-- Assumes nothing.
use Rattle.std.specs.Prelude.{Option, Ok, Err, Some, None}
use Prim.Native.Nat.{ℕ, ◌^◌, ◌≤◌, ◌<◌}
use native.Mathlib.Omega.{arith}
use native.Mathlib.Nat.{mod-eq_of_lt}
use mathlib.Core.Path.{◌≡◌, refl, ◌∙◌}
use mathlib.Core.Bool.{Bool, true}
use mathlib.Core.List.{List, ◌++◌}
use lib.ListN.{length, get_or, drop, length-drop}
use lib.Seq.{take_all}
use borrow.Author.Tests.{lt-ltb, le-leb}
use Rattle.types.specs.declared.ZoneFault.{ZoneFault}
use Rattle.types.specs.declared.ZoneFault.TheVariants as fault
use Rattle.types.specs.declared.Refusal.TheVariants.{BadReport, BadZone, TooFewRows}
use Rattle.types.specs.Answers.{Verdict}
use Rattle.types.specs.Codes.{fault_code}
use Rattle.types.proofs.Volumes.{BoundedVolume}
use Rattle.wire.specs.Le.{le, little}
use Rattle.wire.proofs.Laws.{little-le, joined}
use Rattle.answer_words.specs.Answers.{written}
use Rattle.pieces.specs.declared.Pieces.{Pieces}
use Rattle.mount_words.specs.Words.{mount_words, account_words, word, Holds}
use Rattle.mount_words.proofs.Laws.{BoundedAccount, flag_back, flag_small, written_back}
use Rattle.pieces_words.specs.Words.{pieces_length, account_at, check_words, pieces_words, good_check, possible_words, reason_from, check_from, part_from, pieces_from, HoldsPieces}

-- WHAT THE CHECKS FOUND

-- what they can find of a report: nothing, 28, 29 of a zone with a reason of 1 to 7, 30
pub data Findable : Verdict → Type 0 where
  passed : Findable (Ok tt)
  report : Findable (Err BadReport)
  zone : {n : ℕ} {x : Option ZoneFault} → n < 2 ^ 32 → 1 ≤ fault_code x → fault_code x ≤ 7 → Findable (Err (BadZone n x))
  rows : Findable (Err TooFewRows)

fault_back : (x : Option ZoneFault) → 1 ≤ fault_code x → fault_code x ≤ 7 → reason_from (fault_code x) ≡ x
fault_back None low high = absurd (omega arith)
fault_back (Some fault.Start) low high = refl
fault_back (Some fault.Length) low high = refl
fault_back (Some fault.Capacity) low high = refl
fault_back (Some fault.End) low high = refl
fault_back (Some fault.Type) low high = refl
fault_back (Some fault.Condition) low high = refl
fault_back (Some fault.Pointer) low high = refl
fault_back (Some fault.OtherZone) low high = absurd (omega arith)
fault_back (Some fault.BetterCondition) low high = absurd (omega arith)

module _ (aggregate : Bool) where
  check_possible : (v : Verdict) → Findable v
      → good_check (word (check_words aggregate v) 1) (word (check_words aggregate v) 2) (word (check_words aggregate v) 3) ≡ true
  check_possible _ passed = refl
  check_possible _ report = refl
  check_possible _ (zone small low high) = simp (lt-ltb _ _ small, le-leb _ _ low, le-leb _ _ high)
  check_possible _ rows = refl

  check_back : (v : Verdict) → Findable v
      → check_from (word (check_words aggregate v) 1) (word (check_words aggregate v) 2) (word (check_words aggregate v) 3) ≡ v
  unfolding check_from
  check_back _ passed = refl
  check_back _ report = refl
  check_back _ (zone {x = x} small low high) = simp (mod-eq_of_lt small, fault_back x low high)
  check_back _ rows = refl

-- THE PART'S BYTES

part_back : (b : List ℕ) → ((k : ℕ) → get_or b k 0 < 256) → length b ≡ 64
    → little 8 (le 8 b 0) ++ (little 8 (le 8 b 8) ++ (little 8 (le 8 b 16) ++ (little 8 (le 8 b 24) ++ (little 8 (le 8 b 32)
    ++ (little 8 (le 8 b 40) ++ (little 8 (le 8 b 48) ++ little 8 (le 8 b 56))))))) ≡ b
part_back b small long =
    joined b _ _ 0 8 (little-le 8 b 0 small (omega arith))
    (joined b _ _ 8 8 (little-le 8 b 8 small (omega arith))
    (joined b _ _ 16 8 (little-le 8 b 16 small (omega arith))
    (joined b _ _ 24 8 (little-le 8 b 24 small (omega arith))
    (joined b _ _ 32 8 (little-le 8 b 32 small (omega arith))
    (joined b _ _ 40 8 (little-le 8 b 40 small (omega arith))
    (joined b _ _ 48 8 (little-le 8 b 48 small (omega arith))
    (little-le 8 b 56 small (omega arith) ∙ take_all 8 (drop 56 b) (omega (arith, length-drop 56 b)))))))))

-- ALL OF IT

-- what the types of its fields say of a mount in pieces, and what its checks can find
pub record BoundedPieces (p : Pieces) : Type 0 where
  pub volume : BoundedVolume p.mount.volume
  pub account : BoundedAccount p.mount.account
  pub check : Findable p.received.intake.check
  pub active : p.received.intake.active < 2 ^ 32
  pub bytes : (k : ℕ) → get_or p.received.part k 0 < 256
  pub sixty_four : length p.received.part ≡ 64

-- the mount value in front, its account behind it
found_back : (p : Pieces) (l : List ℕ) → BoundedPieces p → Holds (pieces_words p ++ l) (drop account_at (pieces_words p ++ l)) p.mount
unfolding pieces_words mount_words account_words written
found_back p l b = written_back (pieces_words p ++ l) (drop account_at (pieces_words p ++ l)) p.mount b.volume b.account

there_possible : (p : Pieces) (l : List ℕ) → BoundedPieces p → possible_words (pieces_words p ++ l) ≡ true
unfolding possible_words pieces_words mount_words account_words
there_possible p l b =
    let long : pieces_length ≤ length (pieces_words p ++ l) = omega arith in
    simp (le-leb _ _ long, (found_back p l b).0, flag_small, check_possible p.aggregate _ b.check, lt-ltb _ _ b.active)

there_same : (p : Pieces) (l : List ℕ) → BoundedPieces p → pieces_from (pieces_words p ++ l) ≡ p
unfolding pieces_from pieces_words mount_words account_words part_from
there_same p l b =
    simp (
      (found_back p l b).1,
      flag_back,
      check_back p.aggregate _ b.check,
      mod-eq_of_lt b.active,
      part_back p.received.part b.bytes b.sixty_four,
    )

pub pieces_back : (p : Pieces) (l : List ℕ) → BoundedPieces p → HoldsPieces (pieces_words p ++ l) p
pieces_back p l b = (there_possible p l b, there_same p l b)

-- so words hold a mount in pieces that is put into them, whatever stood there
pub pieces_written : (w : List ℕ) (p : Pieces) → BoundedPieces p → HoldsPieces (written w (pieces_words p)) p
unfolding written
pieces_written w p b = pieces_back p (drop (length (pieces_words p)) w) b
