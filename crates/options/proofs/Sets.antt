-- Laws of sets of words: numbers with a bit for each word, the first word's the lowest.
-- Assumes nothing.
use Rattle.std.specs.Prelude.{Option, Some}
use Prim.Native.Nat.{ℕ, zero, suc, ◌+◌, ◌-◌, ◌*◌, ◌/◌, ◌%◌, ◌^◌, ◌≤◌, ◌<◌}
use native.Mathlib.Omega.{arith}
use native.Mathlib.Nat.{pow-suc, div-div-eq-div-mul}
use mathlib.Core.Bool.{Bool, true, false, cond}
use mathlib.Core.Path.{◌≡◌, refl, ◌∙◌, ap, sym}
use mathlib.Core.List.{List, [], ◌∷◌, ◌++◌, map}
use lib.ListN.{length, drop, get_or, replicate, length-drop}
use lib.Pow.{pow_pos}
use lib.Seq.{drop-cons}
use lib.Dec.{eqb}
use mir.Val.{bool_byte}
use borrow.Author.Tests.{eq-eqb, ne_eqb}
use Rattle.types.specs.Codes.{flag_code}
use Rattle.options.specs.declared.Piece.{Piece}
use Rattle.options.specs.declared.reading.Word as code
use Rattle.options.specs.declared.Piece.TheVariants as piece
use Rattle.options.specs.Options.{comma}
use Rattle.options.specs.Reading.{Word, words, all_words, has_first, others, letter_at, having, piece_in}
use Rattle.options.specs.Facts.{row_bytes, word_row, word_table}

-- for places past the last word
abbrev pub no_word : Word
no_word = record { text = []; asks = piece.ExplicitOpen }

-- a list's element is the same whatever would stand for a missing one
pub in_list : (l : List ℕ) (n a b : ℕ) → n < length l → get_or l n a ≡ get_or l n b
in_list [] n a b h = absurd (omega arith)
in_list (x ∷ xs) zero a b h = refl
in_list (x ∷ xs) (suc n) a b h = in_list xs n a b (omega arith)

-- ---- a row of the table: commas behind a word are no letters of another one

commas_behind : (text : List ℕ) (n at : ℕ) → get_or (text ++ replicate n comma) at comma ≡ get_or text at comma
commas_behind [] zero at = refl
commas_behind [] (suc n) zero = refl
commas_behind [] (suc n) (suc at) = commas_behind [] n at
commas_behind (x ∷ xs) n zero = refl
commas_behind (x ∷ xs) n (suc at) = commas_behind xs n at

module _ (d : code.Word) where
  row_of : (ws : List Word) (w at : ℕ) → w < length ws → get_or (get_or (map word_row ws) w d).text at comma ≡ letter_at at (get_or ws w no_word)
  row_of [] w at h = absurd (omega arith)
  row_of (x ∷ xs) zero at h = commas_behind x.text (row_bytes - length x.text) at
  row_of (x ∷ xs) (suc w) at h = row_of xs w at (omega arith)

  pub row_letter : (w at : ℕ) → w < length words → get_or (get_or word_table w d).text at comma ≡ letter_at at (get_or words w no_word)
  unfolding word_table
  row_letter w at h = row_of words w at h

  -- what a word asks for
  asked_of : (ws : List Word) (w : ℕ) → w < length ws → (get_or (map word_row ws) w d).asks ≡ (get_or ws w no_word).asks
  asked_of [] w h = absurd (omega arith)
  asked_of (x ∷ xs) zero h = refl
  asked_of (x ∷ xs) (suc w) h = asked_of xs w (omega arith)

-- ---- from a word on: the set of those from word w on is the set over 2 ^ w

half : (set w : ℕ) → others (set / 2 ^ w) ≡ set / 2 ^ suc w
half set w = div-div-eq-div-mul set (2 ^ w) 2 ∙ ap (λ (n : ℕ). set / n) (sym (pow-suc 2 w))

asked_from : (ws : List Word) (set w : ℕ) → w < length ws
    → piece_in (drop w ws) (set / 2 ^ w) ≡ cond (has_first (set / 2 ^ w)) (Some (get_or ws w no_word).asks) (piece_in (drop (suc w) ws) (set / 2 ^ suc w))
unfolding piece_in
asked_from ws set w h = rw (drop-cons ws w no_word, ← half set w)

-- a bool as the number that the code makes of it
flag_byte : (f : Bool) → bool_byte f ≡ flag_code f
flag_byte true = refl
flag_byte false = refl

flag_small : (f : Bool) → flag_code f ≤ 1
flag_small true = omega arith
flag_small false = omega arith

pub byte_small : (f : Bool) → bool_byte f ≤ 1
byte_small f = rw (flag_byte f) (flag_small f)

-- no bit is set past the last word's
having_small : (n b at : ℕ) (ws : List Word) → length ws ≤ n → having b at ws < 2 ^ n
unfolding having
having_small zero b at [] h = omega arith
having_small zero b at (w ∷ ws) h = absurd (omega arith)
having_small (suc n) b at [] h = pow_pos (suc n)
having_small (suc n) b at (w ∷ ws) h =
    let rest : having b at ws < 2 ^ n = having_small n b at ws (omega arith) in
    let first : flag_code (eqb b (letter_at at w)) ≤ 1 = flag_small (eqb b (letter_at at w)) in
    rw (pow-suc 2 n) (omega arith)

-- ---- the words that there are

abbrev pub count : ℕ
count = 5

word_count : length words ≡ count
unfolding words
word_count = refl

pub all_words_lem : all_words ≡ 2 ^ count - 1
unfolding words
all_words_lem = refl

few : (w : ℕ) → length (drop w words) ≤ count
few w = rw (length-drop w words, word_count) (omega arith)

pub set_small : (b at w set : ℕ) → set ≡ having b at (drop w words) → set < 2 ^ count
set_small b at w set e = rw e (having_small count b at (drop w words) (few w))

-- a turn of a loop over the words, from the last to the first
pub having-turn : (d : code.Word) (b at w set letter : ℕ) → 0 < w → w ≤ count → letter ≡ get_or (get_or word_table (w - 1) d).text at comma → set ≡ having b at (drop w words)
    → bool_byte (eqb b letter) + 2 * set ≡ having b at (drop (w - 1) words)
unfolding having
having-turn d b at zero set letter h g e l = absurd (omega arith)
having-turn d b at (suc w) set letter h g e l =
    let here : w < length words = rw word_count (omega arith) in
    let one : suc w - 1 ≡ w = omega arith in
    rw (flag_byte, e, l, one, row_letter d w at here, drop-cons words w no_word here)

pub chosen_turn : (d : code.Word) (set w : ℕ) → 0 < w → w ≤ count → set / 2 ^ (w - 1) % 2 ≡ 1
    → Some (get_or word_table (w - 1) d).asks ≡ piece_in (drop (w - 1) words) (set / 2 ^ (w - 1))
unfolding word_table
chosen_turn d set zero h g bit = absurd (omega arith)
chosen_turn d set (suc w) h g bit =
    let here : w < length words = rw word_count (omega arith) in
    let one : suc w - 1 ≡ w = omega arith in
    rw (one, asked_of d words w here, asked_from words set w here, eq-eqb (set / 2 ^ w % 2) 1 (rw one at bit))

pub passed_turn : (set w : ℕ) (asked : Option Piece) → 0 < w → w ≤ count → (set / 2 ^ (w - 1) % 2 ≡ 1 → ⊥) → asked ≡ piece_in (drop w words) (set / 2 ^ w)
    → asked ≡ piece_in (drop (w - 1) words) (set / 2 ^ (w - 1))
passed_turn set zero asked h g bit l = absurd (omega arith)
passed_turn set (suc w) asked h g bit l =
    let here : w < length words = rw word_count (omega arith) in
    let one : suc w - 1 ≡ w = omega arith in
    rw (one, asked_from words set w here, ne_eqb (set / 2 ^ w % 2) 1 (rw one at bit)) l
