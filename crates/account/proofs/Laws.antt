-- Laws of the account: what a changed row does to the true counts, and what these say of a row.
-- Assumes nothing.
use Rattle.std.specs.Prelude.{Ok}
use Prim.Native.Nat.{ℕ, zero, suc, ◌+◌, ◌^◌, ◌≤◌, ◌<◌}
use native.Mathlib.Omega.{arith}
use native.Mathlib.Decide.{ℕ_discrete}
use mathlib.Core.Path.{◌≡◌, refl, sym, subst}
use mathlib.Core.Logic.{◌≢◌}
use mathlib.Core.Bool.{Bool, true, false, false≢true}
use mathlib.Core.List.{List}
use lib.ListN.{length}
use lib.Dec.{leb, ltb}
use borrow.Author.Tests.{leb-true, le-leb, lt-ltb}
use Rattle.types.specs.declared.Account.{Account}
use Rattle.types.specs.declared.Volume.{Volume}
use Rattle.types.specs.declared.Mount.{Mount}
use Rattle.types.specs.declared.Row.{Row}
use Rattle.types.specs.declared.FileKind.{FileKind}
use Rattle.types.specs.declared.FileKind.TheVariants.{Conventional, Sequential}
use Rattle.types.specs.Blocks.{most_files}
use Rattle.types.specs.Codes.{flag_code}
use Rattle.types.proofs.Tests.{leb-same, both, and_left, and_right, means_in}
use Rattle.types.specs.declared.Outstanding.{Outstanding}
use Rattle.table.specs.Rows.{rows_lent, row_at, set_row, with_outstanding}
use Rattle.table.proofs.Laws.{row_at-same, row_at_other}
use Rattle.account.specs.Account.{is_open, is_active, count_after, corrected, accounted, account_fits, counted}
use Rattle.account.specs.Counts.{passes, count_in, TrueCounts}
use Rattle.account.specs.Facts.{Room}

-- A LIMIT that is not above the count is below one more.
pub leb_next : (limit count : ℕ) → leb limit count ≡ ltb limit (count + 1)
leb_next limit count = leb-same limit count (suc limit) (count + 1) (λ p. omega arith) (λ p. omega arith)

-- COUNTS OF A TABLE, whatever is counted
module _ (test : Row → Bool) where
  flag_small : (b : Bool) → flag_code b ≤ 1
  flag_small true = omega arith
  flag_small false = omega arith

  pub count_next : (t : List ℕ) (n : ℕ) → count_in test t n + flag_code (passes test (row_at t n)) ≡ count_in test t (n + 1)
  unfolding count_in
  count_next t n = let e : n + 1 ≡ suc n = omega arith in rw e

  -- never more than there are rows
  pub count_most : (t : List ℕ) (n : ℕ) → count_in test t n ≤ n
  unfolding count_in
  count_most t zero = omega arith
  count_most t (suc n) = omega (arith, count_most t n, flag_small (passes test (row_at t n)))

  -- a row that passes is counted
  pub count_some : (t : List ℕ) (n i : ℕ) → i < n → passes test (row_at t i) ≡ true → 0 < count_in test t n
  unfolding count_in
  count_some t zero i h e = absurd (omega arith)
  count_some t (suc n) i h e = elim (ℕ_discrete i n) [
    | yes q ↦ let f : flag_code (passes test (row_at t n)) ≡ 1 = rw (← q, e) in omega arith
    | no d ↦ let f : 0 < count_in test t n = count_some t n i (omega arith) e in omega arith
  ]

  -- a row that is stored past those counted makes no difference
  pub past : (t : List ℕ) (i : ℕ) (r : Row) (n : ℕ) → n ≤ i → count_in test (set_row t i r) n ≡ count_in test t n
  unfolding count_in
  past t i r zero h = refl
  past t i r (suc n) h = let d : i ≢ n = (λ q. omega arith) in rw (past t i r n (omega arith), row_at_other t i n r d)

  -- the row of number i is changed, and no other
  pub count_set : (t : List ℕ) (i : ℕ) (r r' : Row) (n : ℕ) → i < n → i < rows_lent (length t) → row_at t i ≡ Ok r
      → count_in test (set_row t i r') n + flag_code (test r) ≡ count_in test t n + flag_code (test r')
  unfolding count_in
  count_set t i r r' zero h l e = absurd (omega arith)
  count_set t i r r' (suc n) h l e = elim (ℕ_discrete i n) [
    | yes q ↦
        let here : passes test (row_at (set_row t i r') n) ≡ test r' = rw (← q, row_at-same t i r' l) in
        let there : passes test (row_at t n) ≡ test r = rw (← q, e) in
        let before : count_in test (set_row t i r') n ≡ count_in test t n = past t i r' n (omega arith) in
        rw (here, there, before) (omega arith)
    | no d ↦
        let other : row_at (set_row t i r') n ≡ row_at t n = row_at_other t i n r' d in
        let f = flag_code (passes test (row_at t n)) in
        let rest : count_in test (set_row t i r') n + flag_code (test r) ≡ count_in test t n + flag_code (test r') = count_set t i r r' n (omega arith) l e in
        rw other (omega (arith, rest))
  ]

  -- so a count that is true stays so, once it is corrected
  corrects : (b b' : Bool) (c c' : ℕ) → c' + flag_code b ≡ c + flag_code b' → count_after c b b' ≡ c'
  corrects true true c c' h = omega arith
  corrects true false c c' h = omega arith
  corrects false true c c' h = omega arith
  corrects false false c c' h = omega arith

  pub count_corrected : (t : List ℕ) (i : ℕ) (r r' : Row) (n : ℕ) → i < n → i < rows_lent (length t) → row_at t i ≡ Ok r
      → count_after (count_in test t n) (test r) (test r') ≡ count_in test (set_row t i r') n
  count_corrected t i r r' n h l e = corrects (test r) (test r') (count_in test t n) (count_in test (set_row t i r') n) (count_set t i r r' n h l e)

-- A TRUE ACCOUNT
module _ (m : Mount) (seq : List ℕ) (w : TrueCounts m seq) where
  -- is not above the number of files
  pub true_fits : account_fits m.volume m.account ≡ true
  unfolding account_fits
  true_fits =
      let n = m.volume.sequential in
      both (le-leb m.account.opened n (omega (arith, w.opened, count_most is_open seq n)))
      (le-leb m.account.active n (omega (arith, w.active, count_most (is_active m.volume.explicit) seq n)))

  module _ (i : ℕ) (r : Row) (file : i < m.volume.sequential) (row : row_at seq i ≡ Ok r) where
    -- counts each of its rows
    pub true_counts : counted m Sequential r ≡ true
    unfolding counted
    true_counts =
        let n = m.volume.sequential in
        let explicit = m.volume.explicit in
        both (means_in (is_open r) _ (λ e. lt-ltb 0 m.account.opened (rw w.opened (count_some is_open seq n i file (rw row e)))))
        (means_in (is_active explicit r) _ (λ e. lt-ltb 0 m.account.active (rw w.active (count_some (is_active explicit) seq n i file (rw row e)))))

    -- and stays true where a row is changed
    pub true_stays : (r' : Row) → i < rows_lent (length seq) → TrueCounts (accounted m Sequential r r') (set_row seq i r')
    unfolding corrected
    true_stays r' lent =
        let n = m.volume.sequential in
        let explicit = m.volume.explicit in
        record {
          opened = rw w.opened (count_corrected is_open seq i r r' n file lent row);
          active = rw w.active (count_corrected (is_active explicit) seq i r r' n file lent row);
        }

-- WHAT THE MOUNT FIXES stays when a row is accounted for, and so do the limits and the mark.
abbrev pub Fixes : Mount → Mount → Type 0
Fixes m n =
    (n.volume ≡ m.volume) × ((n.account.open_limit ≡ m.account.open_limit) × (n.account.active_limit ≡ m.account.active_limit))

pub accounted_fixes : (m : Mount) (k : FileKind) (r r' : Row) → Fixes m (accounted m k r r')
unfolding corrected
accounted_fixes m Conventional r r' = (refl, (refl, refl))
accounted_fixes m Sequential r r' = (refl, (refl, refl))

pub accounted_mark : (m : Mount) (k : FileKind) (r r' : Row) → (accounted m k r r').readonly ≡ m.readonly
accounted_mark m Conventional r r' = refl
accounted_mark m Sequential r r' = refl

-- NUMBERS OF 32 BITS stay such.
pub record Small (a : Account) : Type 0 where
  pub opened : a.opened < 2 ^ 32
  pub active : a.active < 2 ^ 32

after_small : (count : ℕ) (b b' : Bool) → count ≤ most_files → count_after count b b' < 2 ^ 32
after_small count true true h = omega arith
after_small count true false h = omega arith
after_small count false true h = omega arith
after_small count false false h = omega arith

pub accounted_small : (m : Mount) (k : FileKind) (r r' : Row) → Room m.account → Small (accounted m k r r').account
unfolding corrected
accounted_small m Conventional r r' w = record { opened = omega (arith, w.opened); active = omega (arith, w.active) }
accounted_small m Sequential r r' w =
    record {
      opened = after_small m.account.opened (is_open r) (is_open r') w.opened;
      active = after_small m.account.active (is_active m.volume.explicit r) (is_active m.volume.explicit r') w.active;
    }

-- WHAT IS OUTSTANDING counts nowhere.
pub active_held : (explicit : Bool) (r : Row) (o : Outstanding) → is_active explicit r ≡ is_active explicit (with_outstanding r o)
unfolding is_active
active_held explicit r o = refl

pub account_held : (m : Mount) (k : FileKind) (r r' : Row) (o : Outstanding) → accounted m k r (with_outstanding r' o) ≡ accounted m k r r'
unfolding corrected is_active
account_held m Conventional r r' o = refl
account_held m Sequential r r' o = refl

-- a row that counts as before makes no difference
same_count : (c : ℕ) (b b' : Bool) → b ≡ b' → count_after c b b' ≡ c
same_count c true true e = refl
same_count c true false e = absurd (false≢true (sym e))
same_count c false true e = absurd (false≢true e)
same_count c false false e = refl

pub uncounted : (m : Mount) (k : FileKind) (r r' : Row) → is_open r ≡ is_open r' → is_active m.volume.explicit r ≡ is_active m.volume.explicit r' → accounted m k r r' ≡ m
unfolding corrected
uncounted m Conventional r r' e f = refl
uncounted m Sequential r r' e f =
    rw (same_count m.account.opened (is_open r) (is_open r') e, same_count m.account.active (is_active m.volume.explicit r) (is_active m.volume.explicit r') f)

module _ (m : Mount) (seq : List ℕ) (w : TrueCounts m seq) (i : ℕ) (r : Row) (file : i < m.volume.sequential) (row : row_at seq i ≡ Ok r) (r' : Row) where
  pub held_stays : (o : Outstanding) → i < rows_lent (length seq) → TrueCounts (accounted m Sequential r r') (set_row seq i (with_outstanding r' o))
  held_stays o lent = subst (λ n. TrueCounts n (set_row seq i (with_outstanding r' o))) (account_held m Sequential r r' o) (true_stays m seq w i r file row (with_outstanding r' o) lent)

  pub uncounted_stays : is_open r ≡ is_open r' → is_active m.volume.explicit r ≡ is_active m.volume.explicit r' → i < rows_lent (length seq) → TrueCounts m (set_row seq i r')
  uncounted_stays e f lent = subst (λ n. TrueCounts n (set_row seq i r')) (uncounted m Sequential r r' e f) (true_stays m seq w i r file row r' lent)

-- A COUNT that passed 10 is far from wrapping.
pub fits_room : (v : Volume) (a : Account) → account_fits v a ≡ true → v.sequential ≤ most_files → Room a
unfolding account_fits
fits_room v a h l =
    record {
      opened = omega (arith, l, leb-true a.opened v.sequential (and_left _ (leb a.active v.sequential) h));
      active = omega (arith, l, leb-true a.active v.sequential (and_right (leb a.opened v.sequential) _ h));
    }
