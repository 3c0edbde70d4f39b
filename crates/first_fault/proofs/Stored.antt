-- A zone's rows, stored in tables that are filled with those before them; and 30, which is told by counting the files.
-- Assumes nothing.
use mathlib.Core.Path.{◌≡◌, refl, ap, ◌∙◌, sym}
use mathlib.Core.List.{List, [], ◌∷◌, ◌++◌, append-nil}
use mathlib.Core.Bool.{Bool, true, false, not, ◌&&◌, ◌||◌}
use Prim.Native.Nat.{ℕ, ◌+◌, ◌≤◌, ◌<◌}
use native.Mathlib.Nat.{zero-add}
use native.Mathlib.Omega.{arith}
use borrow.Author.Tests.{lt-ltb, le-ltb, lt-leb}
use lib.ListN.{length, length-append}
use lib.Dec.{eqb, ltb}
use Rattle.types.specs.Codes.{flag_code}
use Rattle.types.specs.declared.Row.{Row}
use Rattle.table.specs.Rows.{rows_lent, set_row}
use Rattle.mount.specs.Mount.{too_few}
use Rattle.mount.specs.Fill.{fill}
use Rattle.mount.proofs.Tables.{fill_from, fill_from_lem, fill-length}
use Rattle.zones.specs.declared.Zone.{Zone}
use Rattle.zones.specs.Zone.{conventional}
use Rattle.files.specs.declared.Walk.{Walk}
use Rattle.files.specs.Files.{row_if}
use Rattle.files.specs.Walk.{at_zone0, is_seq_file, stepped, cnv_files}
use Rattle.files.proofs.Walks.{step_cnvs, step_seqs}
use Rattle.account.proofs.Laws.{leb_next}
use Rattle.intake.specs.Steps.{put_row, lacks, no_row}
use Rattle.first_fault.proofs.Walked.{step_active}

-- A ROW MORE

from_more : (t : List ℕ) (i : ℕ) (rows : List Row) (r : Row) → fill_from t i (rows ++ (r ∷ [])) ≡ set_row (fill_from t i rows) (i + length rows) r
unfolding fill_from
from_more t i [] r = let here : i + 0 ≡ i = omega arith in rw here
from_more t i (q ∷ rows) r =
    let there : i + length (q ∷ rows) ≡ i + 1 + length rows = omega arith in
    rw there (from_more (set_row t i q) (i + 1) rows r)

-- a filled table, with one row more after the others
fill_more : (t : List ℕ) (rows : List Row) (r : Row) → length rows < rows_lent (length t)
    → fill t (rows ++ (r ∷ [])) ≡ set_row (fill t rows) (length rows) r
fill_more t rows r h =
    sym (fill_from_lem t (rows ++ (r ∷ [])) (omega (arith, length-append rows (r ∷ []))))
    ∙ from_more t 0 rows r
    ∙ ap (λ (n : ℕ). set_row (fill_from t 0 rows) n r) (zero-add (length rows))
    ∙ ap (λ (u : List ℕ). set_row u (length rows) r) (fill_from_lem t rows (omega arith))

-- and where it is asked for: it has a place
pub put_more : (y : Bool) (t : List ℕ) (rows : List Row) (i : ℕ) (r : Row) → i ≡ length rows → i + flag_code y ≤ rows_lent (length t)
    → put_row y (fill t rows) i r ≡ fill t (rows ++ row_if y r [])
put_more true t rows i r e h =
    let place : ltb i (rows_lent (length (fill t rows))) ≡ true =
    lt-ltb i (rows_lent (length (fill t rows))) (omega (arith, fill-length t rows (omega arith))) in
    rw place (ap (λ (n : ℕ). set_row (fill t rows) n r) e ∙ sym (fill_more t rows r (omega arith)))
put_more false t rows i r e h = ap (fill t) (sym (append-nil rows))

-- 30: where the files before it have rows, a zone lacks one exactly if there are more files with it than rows

-- a row of a file that is there or not, after as many as there are rows at most
lack_one : (y : Bool) (n room : ℕ) → n ≤ room → lacks y n room ≡ ltb room (n + flag_code y)
lack_one true n room h = leb_next room n
lack_one false n room h = sym (le-ltb room (n + 0) (omega arith))

pub part_most : (s t : Bool) → flag_code (s && t) ≤ flag_code s
part_most true true = omega arith
part_most true false = omega arith
part_most false t = omega arith

module _ (n room : ℕ) where
  -- the run before the zone has its row
  lack_before : (aggregate active plain : Bool) → n + flag_code active ≤ room → lacks (aggregate && (active && not (aggregate && plain))) n room ≡ false
  lack_before false active plain h = refl
  lack_before true false plain h = refl
  lack_before true true true h = refl
  lack_before true true false h = lt-leb room n (omega arith)

  -- the zone's own run: none of zone 0, one by its type
  lack_after : (first plain aggregate active last : Bool) → n + flag_code active ≤ room
      → lacks (not first && plain && not (aggregate && active) || (not first && plain) && (not aggregate || last))
      (n + flag_code (active && not (aggregate && plain))) room
      ≡ ltb room (n + flag_code (active && not (aggregate && plain)) + flag_code (not first && plain))
  lack_after true plain aggregate active last h =
      sym (le-ltb room (n + flag_code (active && not (aggregate && plain)) + 0) (omega (arith, part_most active (not (aggregate && plain)))))
  lack_after false false aggregate active last h =
      sym (le-ltb room (n + flag_code (active && not (aggregate && false)) + 0) (omega (arith, part_most active (not (aggregate && false)))))
  lack_after false true false active last h = leb_next room (n + flag_code (active && true))
  lack_after false true true false last h = leb_next room (n + 0)
  lack_after false true true true true h = lt-leb room (n + 0) (omega arith) ∙ sym (le-ltb room (n + 0 + 1) (omega arith))
  lack_after false true true true false h = sym (le-ltb room (n + 0 + 1) (omega arith))

pub no_row_lem : (aggregate : Bool) (count : ℕ) (w : Walk) (z : Zone) (cnv_room seq_room : ℕ) → cnv_files w ≤ cnv_room → w.seqs ≤ seq_room
    → no_row aggregate count w z cnv_room seq_room ≡ too_few cnv_room seq_room (cnv_files (stepped aggregate w z)) (stepped aggregate w z).seqs
unfolding no_row
no_row_lem aggregate count w z cnv_room seq_room h k =
    let y = step_active aggregate w z in
    let last = eqb (stepped aggregate w z).number count in
    let one = lack_before w.cnvs cnv_room aggregate w.run.active (conventional z) h in
    let two = lack_after w.cnvs cnv_room (at_zone0 w) (conventional z) aggregate w.run.active last h in
    let three = lack_one (is_seq_file w z) w.seqs seq_room k in
    rw (y, step_cnvs aggregate w z, step_seqs aggregate w z, one, two, three)
