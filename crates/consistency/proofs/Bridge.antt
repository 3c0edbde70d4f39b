-- From the words of a table to its rows.
-- Assumes nothing.
use Rattle.std.specs.Prelude.{Ok}
use Prim.Native.Nat.{ℕ, ◌<◌, ◌≤◌}
use native.Mathlib.Omega.{arith}
use native.Mathlib.Decide.{ℕ_discrete}
use mathlib.Core.Path.{◌≡◌, sym, ◌∙◌, ap}
use mathlib.Core.Logic.{◌≢◌}
use mathlib.Core.List.{List}
use lib.ListN.{length, get_or, set, length-set}
use lib.Seq.{get_or-set_same, get_or-set_other}
use Rattle.types.specs.declared.Row.{Row}
use Rattle.table.specs.Rows.{rows_lent, offline_row, row_at, set_row}
use Rattle.table.proofs.Laws.{row_at-same, row_at_other}
use Rattle.mount.specs.Fill.{fill}
use Rattle.mount.proofs.Tables.{filled_row}

abbrev pub no_row : Row
no_row = offline_row 0 0

-- the first k rows of a table are these
pub record Listed (t : List ℕ) (rows : List Row) (k : ℕ) : Type 0 where
  pub enough : k ≤ length rows
  pub row : (n : ℕ) → n < k → row_at t n ≡ Ok (get_or rows n no_row)

-- a table of which row i became r, and nothing else
pub record Became (t : List ℕ) (i : ℕ) (r : Row) (new : List ℕ) : Type 0 where
  pub here : row_at new i ≡ Ok r
  pub there : (j : ℕ) → i ≢ j → row_at new j ≡ row_at t j

pub set_became : (t : List ℕ) (i : ℕ) (r : Row) → i < rows_lent (length t) → Became t i r (set_row t i r)
set_became t i r h = record { here = row_at-same t i r h; there = λ j d. row_at_other t i j r d }

-- THE BRIDGE: what becomes of a row of the words becomes of that row of the list.
pub listed_became : {t : List ℕ} {rows : List Row} {k : ℕ} {i : ℕ} {r : Row} {new : List ℕ} → Listed t rows k → i < k → Became t i r new → Listed new (set rows i r) k
listed_became {t} {rows} {k} {i} {r} {new} s l b = record { enough = simp length-set s.enough; row = at }
  where
    at : (n : ℕ) → n < k → row_at new n ≡ Ok (get_or (set rows i r) n no_row)
    at n h = elim (ℕ_discrete i n) [
      | yes e ↦ let q : i < length rows = omega (arith, s.enough) in rw (← e) (b.here ∙ ap Ok (sym (get_or-set_same rows i r no_row q)))
      | no d ↦ b.there n d ∙ s.row n h ∙ ap Ok (sym (get_or-set_other rows i n r no_row (λ q. d (sym q))))
    ]

-- A FILLED TABLE shows the rows that it was filled with.
pub fill-listed : (t : List ℕ) (rows : List Row) → length rows ≤ rows_lent (length t) → Listed (fill t rows) rows (length rows)
fill-listed t rows room = record { enough = omega arith; row = λ n h. filled_row t rows n no_row h room }
