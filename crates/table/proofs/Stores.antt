-- What is left of a table of each kind, once a row was stored in that of its file's kind.
-- Assumes nothing.
use Rattle.std.specs.Prelude.{Ok, Some, None}
use Prim.Native.Nat.{ℕ, ◌<◌}
use native.Mathlib.Decide.{ℕ_discrete}
use mathlib.Core.Path.{◌≡◌, refl, sym, ap, ◌∙◌, subst}
use mathlib.Core.List.{List}
use lib.ListN.{length}
use Rattle.types.specs.declared.Row.{Row}
use Rattle.types.specs.declared.FileKind.{FileKind}
use Rattle.types.specs.declared.FileKind.TheVariants.{Conventional, Sequential}
use Rattle.types.specs.Answers.{Store}
use Rattle.types.specs.Kinds.{of_kind}
use Rattle.table.specs.Rows.{Slot}
use Rattle.table.specs.Rows.{rows_lent, row_at, set_row, stored}
use Rattle.table.proofs.Laws.{set_row-length, row_at-same, row_at_other}

-- a store changes the table of its file's kind, and no other
pub stored_either : (P : List ℕ → Type 0) (k : FileKind) (i : ℕ) (r : Row) (j : FileKind) (t : List ℕ) → (k ≡ j → P (set_row t i r)) → P t
    → P (stored j (Some (k, i, r)) t)
stored_either P Conventional i r Conventional t here there = here refl
stored_either P Conventional i r Sequential t here there = there
stored_either P Sequential i r Conventional t here there = there
stored_either P Sequential i r Sequential t here there = here refl

-- the length stays
pub stored-length : (j : FileKind) (s : Store) (t : List ℕ) → length (stored j s t) ≡ length t
stored-length j None t = refl
stored-length j (Some (k, i, r)) t = stored_either (λ u. length u ≡ length t) k i r j t (λ e. set_row-length t i r) refl

-- a row of a table is the one that was stored, or is as before
pub stored_row : (P : Slot → Type 0) (k : FileKind) (i : ℕ) (r : Row) (j : FileKind) (n : ℕ) (t : List ℕ) → (k ≡ j → i < rows_lent (length t))
    → (k ≡ j → i ≡ n → P (Ok r)) → P (row_at t n) → P (row_at (stored j (Some (k, i, r)) t) n)
stored_row P k i r j n t lent here there =
    stored_either (λ u. P (row_at u n)) k i r j t (λ e. elim (ℕ_discrete i n) [
      | yes q ↦ subst P (sym (ap (row_at (set_row t i r)) (sym q) ∙ row_at-same t i r (lent e))) (here e q)
      | no d ↦ subst P (sym (row_at_other t i n r d)) there
    ]) there

-- both tables, and what each of them becomes
pub of_stored : (k : FileKind) (s : Store) (cnv seq : List ℕ) → of_kind k (stored Conventional s cnv) (stored Sequential s seq) ≡ stored k s (of_kind k cnv seq)
of_stored Conventional s cnv seq = refl
of_stored Sequential s cnv seq = refl
