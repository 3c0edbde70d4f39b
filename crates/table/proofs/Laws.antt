-- Laws of a table: what a stored row leaves at its own place, at the others, and of the length.
-- Assumes nothing.
use Rattle.std.specs.Prelude.{Ok, Some}
use Prim.Native.Nat.{ℕ, zero, suc, ◌+◌, ◌*◌, ◌/◌, ◌≤◌, ◌<◌}
use native.Mathlib.Omega.{arith}
use native.Mathlib.Nat.{add-zero, add-suc, suc-add}
use mathlib.Core.Path.{◌≡◌, refl, ◌∙◌, ap, sym}
use mathlib.Core.Logic.{◌≢◌}
use mathlib.Core.List.{List, [], ◌∷◌}
use lib.ListN.{length, get_or, set, length-set}
use lib.Seq.{sets, length-sets, get_or-set_same, get_or-set_other}
use lib.Dec.{lit<}
use Rattle.types.specs.declared.Row.{Row}
use Rattle.types.specs.declared.Condition.{Condition}
use Rattle.types.specs.declared.Condition.TheVariants as condition
use Rattle.types.specs.declared.Access.{Access}
use Rattle.types.specs.declared.Access.TheVariants as access
use Rattle.types.specs.declared.Command.{Command}
use Rattle.types.specs.declared.CommandKind.{CommandKind}
use Rattle.types.specs.declared.CommandKind.TheVariants as command
use Rattle.types.specs.declared.Outstanding.{Outstanding}
use Rattle.types.specs.declared.Outstanding.TheVariants.{Idle, Busy, Unknown}
use Rattle.types.specs.Codes.{condition_code, access_code}
use Rattle.table.specs.Rows.{row_width, rows_lent, held_code, held_address, held_length, row_words, condition_read, access_read, held_read, word_at, row_at, set_row}

-- WORDS STORED IN A ROW, of any number

-- what lies outside them is as before
pub sets_outside : (vs l : List ℕ) (i j : ℕ) → (i ≤ j → i + length vs ≤ j) → get_or (sets l i vs) j 0 ≡ get_or l j 0
sets_outside [] l i j h = refl
sets_outside (v ∷ vs) l i j h =
    let other : j ≢ i = (λ q. let e : i + suc (length vs) ≤ j = h (omega arith) in omega arith) in
    sets_outside vs (set l i v) (suc i) j (λ g. let e : i + suc (length vs) ≤ j = h (omega arith) in omega arith)
    ∙ get_or-set_other l i j v 0 other

-- word k of them is the k-th
pub sets_inside : (vs l : List ℕ) (i k : ℕ) → k < length vs → i + length vs ≤ length l → get_or (sets l i vs) (i + k) 0 ≡ get_or vs k 0
sets_inside [] l i k h f = absurd (omega arith)
sets_inside (v ∷ vs) l i zero h f =
    let inside : i < length l = omega arith in
    sets_outside vs (set l i v) (suc i) (i + 0) (λ g. absurd (omega arith))
    ∙ ap (λ (j : ℕ). get_or (set l i v) j 0) (add-zero i)
    ∙ get_or-set_same l i v 0 inside
sets_inside (v ∷ vs) l i (suc k) h f =
    ap (λ (j : ℕ). get_or (sets (set l i v) (suc i) vs) j 0) (add-suc i k ∙ sym (suc-add i k))
    ∙ sets_inside vs (set l i v) (suc i) k (omega arith) (omega (arith, length-set l i v))

-- A ROW

pub condition_back : (k : Condition) → condition_read (condition_code k) ≡ Some k
condition_back condition.Healthy = refl
condition_back condition.ReadOnly = refl
condition_back condition.Offline = refl

pub access_back : (a : Access) → access_read (access_code a) ≡ Some a
access_back access.Nothing = refl
access_back access.Read = refl
access_back access.Write = refl

command_held : (k : CommandKind) (a n : ℕ) → let c : Command = record { kind = k; address = a; length = n } in held_read (held_code (Busy c)) a n ≡ Busy c
command_held command.Read a n = refl
command_held command.Write a n = refl
command_held command.Reset a n = refl
command_held command.Finish a n = refl
command_held command.Flush a n = refl
command_held command.Open a n = refl
command_held command.Close a n = refl

pub held_back : (o : Outstanding) → held_read (held_code o) (held_address o) (held_length o) ≡ o
held_back Idle = refl
held_back (Busy c) = command_held c.kind c.address c.length
held_back Unknown = refl

-- the length stays
pub set_row-length : (t : List ℕ) (i : ℕ) (r : Row) → length (set_row t i r) ≡ length t
unfolding set_row
set_row-length t i r = length-sets t (i * row_width) (row_words r)

-- a row stored word by word
pub stored : (t : List ℕ) (i : ℕ) (r : Row) → set_row t i r ≡ set (set (set (set (set (set (set (set (set t (i * row_width) r.start) (i * row_width + 1) r.capacity) (i * row_width + 2) r.size) (i * row_width + 3) (condition_code r.condition)) (i * row_width + 4) (access_code r.access)) (i * row_width + 5) (held_code r.outstanding)) (i * row_width + 6) (held_address r.outstanding)) (i * row_width + 7) (held_length r.outstanding)) (i * row_width + 8) r.opens
unfolding set_row
stored t i r =
    let one : suc (i * row_width) ≡ i * row_width + 1 = omega arith in
    let two : suc (i * row_width + 1) ≡ i * row_width + 2 = omega arith in
    let three : suc (i * row_width + 2) ≡ i * row_width + 3 = omega arith in
    let four : suc (i * row_width + 3) ≡ i * row_width + 4 = omega arith in
    let five : suc (i * row_width + 4) ≡ i * row_width + 5 = omega arith in
    let six : suc (i * row_width + 5) ≡ i * row_width + 6 = omega arith in
    let seven : suc (i * row_width + 6) ≡ i * row_width + 7 = omega arith in
    let eight : suc (i * row_width + 7) ≡ i * row_width + 8 = omega arith in
    rw (one, two, three, four, five, six, seven, eight)

-- a word that is none of the row's, of another row or left over, is as before
pub word_outside : (t : List ℕ) (i j : ℕ) (r : Row) → (j / row_width ≡ i → ⊥) → get_or (set_row t i r) j 0 ≡ get_or t j 0
unfolding set_row
word_outside t i j r h = sets_outside (row_words r) t (i * row_width) j (λ g. elsewhere g)
  where
    elsewhere : i * row_width ≤ j → i * row_width + row_width ≤ j
    elsewhere g = let d : j / row_width ≢ i = h in omega arith

-- a row is its words
slot_of-words : (t u : List ℕ) (i j : ℕ) → ((k : ℕ) → k < row_width → word_at t i k ≡ word_at u j k) → row_at t i ≡ row_at u j
unfolding row_at
slot_of-words t u i j same =
    rw (same 0 (lit< tt), same 1 (lit< tt), same 2 (lit< tt), same 3 (lit< tt), same 4 (lit< tt), same 5 (lit< tt), same 6 (lit< tt), same 7 (lit< tt), same 8 (lit< tt))

-- another row is as before
pub row_at_other : (t : List ℕ) (i j : ℕ) (r : Row) → i ≢ j → row_at (set_row t i r) j ≡ row_at t j
row_at_other t i j r d = slot_of-words (set_row t i r) t j j (λ k h. word_outside t i (j * row_width + k) r (λ q. d (omega arith)))

-- a row put and read back is the row
pub row_at-same : (t : List ℕ) (i : ℕ) (r : Row) → i < rows_lent (length t) → row_at (set_row t i r) i ≡ Ok r
unfolding row_at set_row
row_at-same t i r h =
    rw (word 0 (lit< tt), word 1 (lit< tt), word 2 (lit< tt), word 3 (lit< tt), word 4 (lit< tt), word 5 (lit< tt), word 6 (lit< tt), word 7 (lit< tt), word 8 (lit< tt), condition_back, access_back, held_back)
  where
    word : (k : ℕ) → k < row_width → get_or (sets t (i * row_width) (row_words r)) (i * row_width + k) 0 ≡ get_or (row_words r) k 0
    word k g = sets_inside (row_words r) t (i * row_width) k g (omega arith)
