-- A filled table: row after row stored gives it, and its rows read back.
-- Assumes nothing.
use Rattle.std.specs.Prelude.{Ok}
use mathlib.Core.Path.{◌≡◌, refl, ap, ◌∙◌, sym}
use mathlib.Core.List.{List, [], ◌∷◌, ◌++◌}
use Prim.Native.Nat.{ℕ, zero, suc, ◌+◌, ◌*◌, ◌≤◌, ◌<◌}
use native.Mathlib.Nat.{zero-add, add-zero, add-suc, suc-add}
use native.Mathlib.Omega.{arith}
use lib.ListN.{length, drop, get_or, set}
use lib.Seq.{sets, sets-eq}
use Rattle.types.specs.declared.Row.{Row}
use Rattle.table.specs.Rows.{row_width, rows_lent, row_words, row_at, set_row}
use Rattle.table.proofs.Laws.{set_row-length, row_at-same, row_at_other}
use Rattle.mount.specs.Fill.{rows_words, fill}

-- THE ROWS STORED, one after the other from number i on
unfoldable pub fill_from : List ℕ → ℕ → List Row → List ℕ
fill_from t i [] = t
fill_from t i (r ∷ rs) = fill_from (set_row t i r) (i + 1) rs

pub fill_next : (t : List ℕ) (i : ℕ) (r : Row) (rs : List Row) → fill_from t i (r ∷ rs) ≡ fill_from (set_row t i r) (i + 1) rs
unfolding fill_from
fill_next t i r rs = refl

-- words stored after others
sets_join : (vs ws t : List ℕ) (i : ℕ) → sets (sets t i vs) (i + length vs) ws ≡ sets t i (vs ++ ws)
sets_join [] ws t i = ap (λ (n : ℕ). sets t n ws) (add-zero i)
sets_join (v ∷ vs) ws t i =
    ap (λ (n : ℕ). sets (sets (set t i v) (suc i) vs) n ws) (add-suc i (length vs) ∙ sym (suc-add i (length vs))) ∙ sets_join vs ws (set t i v) (suc i)

fill-sets : (t : List ℕ) (i : ℕ) (rows : List Row) → fill_from t i rows ≡ sets t (i * row_width) (rows_words rows)
unfolding fill_from rows_words set_row
fill-sets t i [] = refl
fill-sets t i (r ∷ rs) =
    let next : (i + 1) * row_width ≡ i * row_width + length (row_words r) = omega arith in
    fill-sets (set_row t i r) (i + 1) rs
    ∙ ap (λ (n : ℕ). sets (set_row t i r) n (rows_words rs)) next
    ∙ sets_join (row_words r) (rows_words rs) t (i * row_width)

words-length : (rows : List Row) → length (rows_words rows) ≡ length rows * row_width
unfolding rows_words
words-length [] = refl
words-length (r ∷ rs) = omega (arith, words-length rs)

-- row after row stored is the filled table
pub fill_from_lem : (t : List ℕ) (rows : List Row) → length rows ≤ rows_lent (length t) → fill_from t 0 rows ≡ fill t rows
unfolding fill
fill_from_lem t rows h =
    fill-sets t 0 rows
    ∙ sets-eq (rows_words rows) t 0 (omega (arith, words-length rows))
    ∙ ap (λ (n : ℕ). rows_words rows ++ drop n t) (zero-add (length (rows_words rows)) ∙ words-length rows)

-- as long as it was
from_length : (t : List ℕ) (i : ℕ) (rows : List Row) → length (fill_from t i rows) ≡ length t
unfolding fill_from
from_length t i [] = refl
from_length t i (r ∷ rs) = from_length (set_row t i r) (i + 1) rs ∙ set_row-length t i r

pub fill-length : (t : List ℕ) (rows : List Row) → length rows ≤ rows_lent (length t) → length (fill t rows) ≡ length t
fill-length t rows h = ap length (sym (fill_from_lem t rows h)) ∙ from_length t 0 rows

-- ITS ROWS

from_below : (t : List ℕ) (i : ℕ) (rows : List Row) (j : ℕ) → j < i → row_at (fill_from t i rows) j ≡ row_at t j
unfolding fill_from
from_below t i [] j h = refl
from_below t i (r ∷ rs) j h = from_below (set_row t i r) (i + 1) rs j (omega arith) ∙ row_at_other t i j r (λ q. omega arith)

from_row : (t : List ℕ) (i : ℕ) (rows : List Row) (n : ℕ) (d : Row) → n < length rows → i + length rows ≤ rows_lent (length t) → row_at (fill_from t i rows) (i + n) ≡ Ok (get_or rows n d)
unfolding fill_from
from_row t i [] n d h f = absurd (omega arith)
from_row t i (r ∷ rs) zero d h f =
    let here : i + 0 ≡ i = omega arith in
    rw here (from_below (set_row t i r) (i + 1) rs i (omega arith) ∙ row_at-same t i r (omega arith))
from_row t i (r ∷ rs) (suc n) d h f =
    let there : i + suc n ≡ i + 1 + n = omega arith in
    rw there (from_row (set_row t i r) (i + 1) rs n d (omega arith) (omega (arith, set_row-length t i r)))

-- row n of a filled table is row n of the list
pub filled_row : (t : List ℕ) (rows : List Row) (n : ℕ) (d : Row) → n < length rows → length rows ≤ rows_lent (length t) → row_at (fill t rows) n ≡ Ok (get_or rows n d)
filled_row t rows n d h f =
    ap (λ (u : List ℕ). row_at u n) (sym (fill_from_lem t rows f))
    ∙ ap (row_at (fill_from t 0 rows)) (sym (zero-add n))
    ∙ from_row t 0 rows n d h (omega arith)
