-- A mount in pieces in the words that a caller keeps between its calls: where each field stands, which words can hold one, and which one they hold.
use Rattle.std.specs.Prelude.{ℕ, List, [], ◌∷◌, ◌++◌, Bool, true, cond, ◌&&◌, ◌||◌, ◌≡◌, length, get_or, drop, leb, eqb, Option, Ok, Err, Some}
use Rattle.types.specs.declared.ZoneFault.{ZoneFault}
use Rattle.types.specs.declared.ZoneFault.TheVariants as fault
use Rattle.types.specs.declared.Refusal.{Refusal}
use Rattle.types.specs.declared.Refusal.TheVariants.{BadReport, BadZone, TooFewRows}
use Rattle.types.specs.Answers.{Verdict}
use Rattle.types.specs.Codes.{flag_code}
use Rattle.types.specs.Numbers.{verdict_number, verdict_values}
use Rattle.wire.specs.Le.{le, little}
use Rattle.files.specs.declared.Walk.{Walk}
use Rattle.intake.specs.declared.Intake.{Intake}
use Rattle.receiving.specs.declared.Received.{Received}
use Rattle.pieces.specs.declared.Pieces.{Pieces}
use Rattle.mount_words.specs.Words.{mount_words, account_words, word, short, is_flag, possible, short_of, flag_from, mount_from}

-- ---- the words of a mount in pieces

-- how many there are
abbrev pub pieces_length : ℕ
pieces_length = 39

-- words 0 to 10: the mount value that begin found, of no files yet. Words 11 to 14: its account
abbrev pub account_at : ℕ
account_at = 11

abbrev pub found_words : Pieces → List ℕ
found_words p = mount_words p.mount ++ account_words p.mount.account

-- word 15: whether neighbouring conventional zones are one file. Words 16 to 18: 0, or what was refused, the number with its values; a value that it
-- doesn't have is 0
abbrev pub check_at : ℕ
check_at = 15

abbrev pub check_words : Bool → Verdict → List ℕ
check_words aggregate v =
    flag_code aggregate ∷ verdict_number v ∷ get_or (verdict_values v) 0 0 ∷ get_or (verdict_values v) 1 0 ∷ []

-- words 19 to 29: what else was taken of the report, its header, the walk over its zones with the unfinished run, and how many files are active
abbrev pub taken_at : ℕ
taken_at = 19

abbrev pub taken_words : Intake → List ℕ
taken_words i =
    i.count ∷ flag_code i.given ∷ i.walk.number ∷ i.walk.expected
    ∷ flag_code i.walk.run.active ∷ i.walk.run.start ∷ i.walk.run.capacity ∷ flag_code i.walk.run.healthy
    ∷ i.walk.cnvs ∷ i.walk.seqs ∷ i.active ∷ []

-- word 30: how many bytes are held of the next header or zone. Words 31 to 38: their place of 64 bytes, as eight little-endian numbers of eight
abbrev pub held_at : ℕ
held_at = 30

abbrev pub held_words : Received → List ℕ
held_words x =
    x.held ∷ le 8 x.part 0 ∷ le 8 x.part 8 ∷ le 8 x.part 16 ∷ le 8 x.part 24
    ∷ le 8 x.part 32 ∷ le 8 x.part 40 ∷ le 8 x.part 48 ∷ le 8 x.part 56 ∷ []

unfoldable pub pieces_words : Pieces → List ℕ
pieces_words p =
    found_words p
    ++ (check_words p.aggregate p.received.intake.check ++ (taken_words p.received.intake ++ held_words p.received))

-- ---- which words can hold one

-- passed, or one of the refusals that a report's bytes lead to: 28, 29 with a zone and a reason of 1 to 7, 30
abbrev pub good_check : ℕ → ℕ → ℕ → Bool
good_check number first second =
    ((eqb number 0 || eqb number 28 || eqb number 30) && eqb first 0 && eqb second 0)
    || (eqb number 29 && short first && leb 1 second && leb second 7)

abbrev pub good_numbers : List ℕ → Bool
good_numbers w = is_flag (word w 20) && is_flag (word w 23) && is_flag (word w 26) && short (word w 29)

-- long enough, every number within its width, and every code one of its codes. What could wrap is refused when it is gone on with (`possible_pieces`).
unfoldable pub possible_words : List ℕ → Bool
possible_words w =
    leb pieces_length (length w)
    && (possible w (drop account_at w) && is_flag (word w 15) && good_check (word w 16) (word w 17) (word w 18) && good_numbers w)

-- ---- the one of words

-- a reason from its number
abbrev pub reason_from : ℕ → Option ZoneFault
reason_from n =
    cond (eqb n 1) (Some fault.Start)
    (cond (eqb n 2) (Some fault.Length) (cond (eqb n 3) (Some fault.Capacity) (cond (eqb n 4) (Some fault.End)
    (cond (eqb n 5) (Some fault.Type) (cond (eqb n 6) (Some fault.Condition) (Some fault.Pointer))))))

abbrev pub refusal_from : ℕ → ℕ → ℕ → Refusal
refusal_from number first second =
    cond (eqb number 28) BadReport (cond (eqb number 29) (BadZone (short_of first) (reason_from second)) TooFewRows)

unfoldable pub check_from : ℕ → ℕ → ℕ → Verdict
check_from number first second = cond (eqb number 0) (Ok tt) (Err (refusal_from number first second))

abbrev pub walk_from : List ℕ → Walk
walk_from w =
    record {
      number = word w 21;
      expected = word w 22;
      run = record { active = flag_from (word w 23); start = word w 24; capacity = word w 25; healthy = flag_from (word w 26) };
      cnvs = word w 27;
      seqs = word w 28;
    }

abbrev pub intake_from : List ℕ → Intake
intake_from w =
    record {
      check = check_from (word w 16) (word w 17) (word w 18);
      count = word w 19;
      given = flag_from (word w 20);
      walk = walk_from w;
      active = short_of (word w 29);
    }

unfoldable pub part_from : List ℕ → List ℕ
part_from w =
    little 8 (word w 31) ++ (little 8 (word w 32) ++ (little 8 (word w 33) ++ (little 8 (word w 34)
    ++ (little 8 (word w 35) ++ (little 8 (word w 36) ++ (little 8 (word w 37) ++ little 8 (word w 38)))))))

-- the law `pieces_back` says that words put by `pieces_words` hold what they were put for
unfoldable pub pieces_from : List ℕ → Pieces
pieces_from w =
    record {
      mount = mount_from w (drop account_at w);
      aggregate = flag_from (word w 15);
      received = record { intake = intake_from w; part = part_from w; held = word w 30 };
    }

-- the words hold this one
abbrev pub HoldsPieces : List ℕ → Pieces → Type 0
HoldsPieces w p = (possible_words w ≡ true) × (pieces_from w ≡ p)
