-- The account that a mount hands out is true: no row of it is open, and the active ones are counted.
-- Assumes nothing.
use Prim.Native.Nat.{ℕ, zero, suc, ◌≤◌, ◌<◌}
use native.Mathlib.Omega.{arith}
use mathlib.Core.Bool.{Bool, true, false}
use mathlib.Core.List.{List, [], ◌∷◌}
use mathlib.Core.Path.{◌≡◌, refl, sym, ap, ◌∙◌}
use lib.ListN.{length, get_or}
use lib.Dec.{ltb}
use Rattle.types.specs.declared.Row.{Row}
use Rattle.types.specs.Codes.{flag_code}
use Rattle.types.specs.Numbers.{mount_number}
use Rattle.table.specs.Rows.{rows_lent, row_at, offline_row}
use Rattle.account.specs.Account.{is_open}
use Rattle.account.specs.Counts.{passes, count_in, TrueCounts}
use Rattle.zones.specs.declared.Zone.{Zone}
use Rattle.zones.specs.Zone.{sequential, healthy}
use Rattle.files.specs.Files.{file_row, row_if, seq_row, seq_rows}
use Rattle.mount.specs.Fill.{fill}
use Rattle.mount.specs.Mount.{file_zones, mount_outcome}
use Rattle.mount.proofs.Tables.{filled_row}
use Rattle.mount.proofs.Leaves.{accepts, mount_leaves}

-- where no row passes, none is counted
count_none : (test : Row → Bool) (t : List ℕ) (n : ℕ) → ((k : ℕ) → k < n → passes test (row_at t k) ≡ false) → count_in test t n ≡ 0
unfolding count_in
count_none test t zero none = refl
count_none test t (suc n) none =
    let rest : count_in test t n ≡ 0 = count_none test t n (λ k h. none k (omega arith)) in
    omega (arith, ap flag_code (none n (omega arith)))

-- NO ROW OF A MOUNT IS OPEN, neither a healthy one nor one kept as offline

closed : (good : Bool) (s c z : ℕ) → (file_row good s c z).opens ≡ 0
closed true s c z = refl
closed false s c z = refl

any_row : Row
any_row = offline_row 0 0

module _ (z : Zone) (rs : List Row) (rest : (n : ℕ) → (get_or rs n any_row).opens ≡ 0) where
  with_row : (file : Bool) (n : ℕ) → (get_or (row_if file (seq_row z) rs) n any_row).opens ≡ 0
  with_row false n = rest n
  with_row true zero = closed (healthy z) _ _ _
  with_row true (suc n) = rest n

seqs_closed : (zs : List Zone) (n : ℕ) → (get_or (seq_rows zs) n any_row).opens ≡ 0
unfolding seq_rows any_row
seqs_closed [] n = refl
seqs_closed (z ∷ zs) n = with_row z (seq_rows zs) (seqs_closed zs) (sequential z) n

none_open : (seq : List ℕ) (zs : List Zone) → length (seq_rows zs) ≤ rows_lent (length seq)
    → count_in is_open (fill seq (seq_rows zs)) (length (seq_rows zs)) ≡ 0
none_open seq zs fits =
    count_none is_open (fill seq (seq_rows zs)) (length (seq_rows zs))
    (λ k h. ap (passes is_open) (filled_row seq (seq_rows zs) k any_row h fits) ∙ ap (ltb 0) (seqs_closed zs k))

-- SO THE ACCOUNT IS TRUE
pub mount_true : (block : ℕ) (superblock options report : List ℕ) (open_limit active_limit : ℕ) (cnv seq : List ℕ)
    → let o = mount_outcome block superblock options report open_limit active_limit cnv seq in
    mount_number o.answer ≡ 0 → TrueCounts o.mount o.seq
mount_true block superblock options report open_limit active_limit cnv seq e =
    let t = accepts block superblock options report open_limit active_limit cnv seq e in
    rw (mount_leaves block superblock options report open_limit active_limit cnv seq t)
    (record {
      opened = sym (none_open seq (file_zones report) t.seq_fit);
      active = refl;
    })
