-- Inputs about different files commute, where neither marks the mount read-only and the account is true and not read.
-- Assumes nothing.
use Rattle.std.specs.Prelude.{Some, None}
use Prim.Native.Nat.{ℕ, suc, ◌+◌, ◌*◌, ◌≤◌, ◌<◌}
use native.Mathlib.Omega.{arith}
use mathlib.Core.Path.{◌≡◌, refl, sym, ap, ◌∙◌, subst}
use mathlib.Core.Logic.{◌≢◌}
use mathlib.Core.Bool.{Bool}
use mathlib.Core.List.{List, [], ◌∷◌}
use lib.ListN.{length, set}
use lib.Seq.{sets, set_comm}
use Rattle.types.specs.declared.Account.{Account}
use Rattle.types.specs.declared.Mount.{Mount}
use Rattle.types.specs.declared.Volume.{Volume}
use Rattle.types.specs.declared.Row.{Row}
use Rattle.types.specs.declared.FileKind.{FileKind}
use Rattle.types.specs.declared.FileKind.TheVariants.{Conventional, Sequential}
use Rattle.types.specs.Answers.{Store}
use Rattle.types.specs.Codes.{kind_code, kind_from}
use Rattle.types.specs.Mounts.{with_account}
use Rattle.types.proofs.CodeLaws.{kind_there}
use Rattle.table.specs.Rows.{row_width, row_words, row_at, set_row, stored}
use Rattle.table.proofs.Stores.{of_stored}
use Rattle.account.specs.Account.{is_open, is_active}
use Rattle.account.specs.Counts.{count_in}
use Rattle.calls.specs.Calls as calls
use Rattle.completion.specs.Completions as completions
use Rattle.engine.specs.Engine.{State, Input, call, completion, effect_of, applied, step}
use Rattle.engine.specs.Frame.{kind_in, number_in, table_of}
use Rattle.engine.specs.Counts.{Counted, Unread, StaysCounted}
use Rattle.engine.specs.Commuting.{Apart, Unmarking, Commuting}
use Rattle.engine.proofs.Laws.{OfFile, effect_names, step_fixes, step_limits}
use Rattle.engine.proofs.Frame.{stored_rows}
use Rattle.engine.proofs.Counts.{stays_counted}
use Rattle.engine.proofs.Alike.{SameEffect, Alike, call_alike, completion_alike, kinds_alike}

-- STORES of different rows

-- a word that none of the others is
set-sets : (vs l : List ℕ) (i j : ℕ) (a : ℕ) → (i ≤ j → i + length vs ≤ j) → set (sets l i vs) j a ≡ sets (set l j a) i vs
set-sets [] l i j a h = refl
set-sets (v ∷ vs) l i j a h =
    let other : i ≢ j = (λ q. let e : i + suc (length vs) ≤ j = h (omega arith) in omega arith) in
    set-sets vs (set l i v) (suc i) j a (λ g. let e : i + suc (length vs) ≤ j = h (omega arith) in omega arith)
    ∙ ap (λ (u : List ℕ). sets u (suc i) vs) (set_comm l i j v a other)

sets-sets : (ws vs l : List ℕ) (i j : ℕ) → ((n : ℕ) → j ≤ n → n < j + length ws → i ≤ n → i + length vs ≤ n) → sets (sets l i vs) j ws ≡ sets (sets l j ws) i vs
sets-sets [] vs l i j h = refl
sets-sets (w ∷ ws) vs l i j h =
    ap (λ (u : List ℕ). sets u (suc j) ws) (set-sets vs l i j w (λ g. h j (omega arith) (omega arith) g))
    ∙ sets-sets ws vs (set l j w) i (suc j) (λ n a b c. h n (omega arith) (omega arith) c)

rows_commute : (t : List ℕ) (i j : ℕ) (r q : Row) → i ≢ j → set_row (set_row t i r) j q ≡ set_row (set_row t j q) i r
unfolding set_row
rows_commute t i j r q d =
    sets-sets (row_words q) (row_words r) t (i * row_width) (j * row_width) (λ n a b c. apart n a b c)
  where
    apart : (n : ℕ) → j * row_width ≤ n → n < j * row_width + row_width → i * row_width ≤ n → i * row_width + row_width ≤ n
    apart n a b c = let e : i ≢ j = d in omega arith

-- of two files, in either table
stores_commute : (f : FileKind) (x y : Input) (d e : Store) (t : List ℕ) → OfFile (kind_in x) (number_in x) d → OfFile (kind_in y) (number_in y) e → Apart x y
    → stored f e (stored f d t) ≡ stored f d (stored f e t)
stores_commute f x y None None t a b apart = refl
stores_commute f x y None (Some (l, j, q)) t a b apart = refl
stores_commute f x y (Some (k, i, r)) None t a b apart = refl
stores_commute Conventional x y (Some (Conventional, i, r)) (Some (Conventional, j, q)) t (a, m) (b, n) apart = rows_commute t i j r q (λ e. apart (sym a ∙ b) (sym m ∙ e ∙ n))
stores_commute Conventional x y (Some (Conventional, i, r)) (Some (Sequential, j, q)) t a b apart = refl
stores_commute Conventional x y (Some (Sequential, i, r)) (Some (Conventional, j, q)) t a b apart = refl
stores_commute Conventional x y (Some (Sequential, i, r)) (Some (Sequential, j, q)) t a b apart = refl
stores_commute Sequential x y (Some (Conventional, i, r)) (Some (Conventional, j, q)) t a b apart = refl
stores_commute Sequential x y (Some (Conventional, i, r)) (Some (Sequential, j, q)) t a b apart = refl
stores_commute Sequential x y (Some (Sequential, i, r)) (Some (Conventional, j, q)) t a b apart = refl
stores_commute Sequential x y (Some (Sequential, i, r)) (Some (Sequential, j, q)) t (a, m) (b, n) apart = rows_commute t i j r q (λ e. apart (sym a ∙ b) (sym m ∙ e ∙ n))

-- AN EFFECT looks at the mount, its account aside, and at the row of the file that it names.
effects_alike : (s t : State) (x : Input) → ((k : FileKind) → kind_code k ≡ kind_in x → row_at (table_of k t) (number_in x) ≡ row_at (table_of k s) (number_in x))
    → Alike (effect_of s x) (effect_of (record { mount = with_account s.mount t.mount.account; cnv = t.cnv; seq = t.seq }) x)
unfolding calls.effect_by completions.effect_by
effects_alike s t (call kind n x) row =
    kinds_alike s.mount t.mount.account kind s.cnv s.seq t.cnv t.seq _ _
    (λ e. call_alike s.mount t.mount.account s.cnv s.seq t.cnv t.seq (kind_from kind) n (row (kind_from kind) (kind_there kind e)) x)
effects_alike s t (completion kind n x) row =
    kinds_alike s.mount t.mount.account kind s.cnv s.seq t.cnv t.seq _ _
    (λ e. completion_alike s.mount t.mount.account s.cnv s.seq t.cnv t.seq (kind_from kind) n (row (kind_from kind) (kind_there kind e)) x)

-- MOUNTS with the same parts
spell : Volume → Bool → Account → Mount
spell v b a = record { volume = v; readonly = b; account = a }

same_mount : (m n : Mount) → m.volume ≡ n.volume → m.readonly ≡ n.readonly → m.account ≡ n.account → m ≡ n
unfolding spell
same_mount m n e f g = let h : spell m.volume m.readonly m.account ≡ spell n.volume n.readonly n.account = cc in h

accounts : ℕ → ℕ → ℕ → ℕ → Account
accounts o a l k = record { opened = o; active = a; open_limit = l; active_limit = k }

same_account : (a b : Account) → a.opened ≡ b.opened → a.active ≡ b.active → a.open_limit ≡ b.open_limit → a.active_limit ≡ b.active_limit → a ≡ b
unfolding accounts
same_account a b e f g h =
    let q : accounts a.opened a.active a.open_limit a.active_limit ≡ accounts b.opened b.active b.open_limit b.active_limit = cc in q

same_state : (m n : Mount) (c d s t : List ℕ) → m ≡ n → c ≡ d → s ≡ t → ◌≡◌ {A = State} (record { mount = m; cnv = c; seq = s }) (record { mount = n; cnv = d; seq = t })
same_state m n c d s t e f g = rw (e, f, g)

-- after an input about another file that leaves the mark
after_other : (s : State) (x y : Input) → Apart x y → Unmarking s x → Unread (step s y).reply → Unread (step (step s x).state y).reply
    → SameEffect (effect_of s y) (effect_of (step s x).state y)
unfolding step
after_other s x y apart still u v =
    let d = (effect_of s x).store in
    let t = applied s (effect_of s x) in
    let row : (k : FileKind) → kind_code k ≡ kind_in y → row_at (table_of k t) (number_in y) ≡ row_at (table_of k s) (number_in y) = (λ k e. rw (of_stored k d s.cnv s.seq) (stored_rows x k d (table_of k s) (number_in y) (effect_names s x) (λ f g. apart (sym f ∙ e) (sym g)))) in
    let mount : t.mount ≡ with_account s.mount t.mount.account = same_mount t.mount (with_account s.mount t.mount.account) (step_fixes s x) still refl in
    let spelt : t ≡ record { mount = with_account s.mount t.mount.account; cnv = t.cnv; seq = t.seq } = same_state _ _ _ _ _ _ mount refl refl in
    subst (λ w. SameEffect (effect_of s y) (effect_of w y)) (sym spelt) (effects_alike s t y row u (subst (λ w. Unread (effect_of w y).outcome.answer) spelt v))

-- THE ACCOUNT after both, of states with the same table
counted_same : (s t : State) → Counted s → Counted t → s.mount.volume ≡ t.mount.volume → s.seq ≡ t.seq
    → s.mount.account.open_limit ≡ t.mount.account.open_limit → s.mount.account.active_limit ≡ t.mount.account.active_limit → s.mount.account ≡ t.mount.account
counted_same s t u v e f g h =
    same_account s.mount.account t.mount.account
    (u.opened ∙ same_count (λ w. is_open) s.mount.volume t.mount.volume s.seq t.seq e f ∙ sym v.opened)
    (u.active ∙ same_count (λ w. is_active w.explicit) s.mount.volume t.mount.volume s.seq t.seq e f ∙ sym v.active) g h
  where
    same_count : (test : Volume → Row → Bool) (v w : Volume) (c d : List ℕ) → v ≡ w → c ≡ d → count_in (test v) c v.sequential ≡ count_in (test w) d w.sequential
    same_count test v w c d e f = ap (λ (v : Volume). count_in (test v) c v.sequential) e ∙ ap (λ (t : List ℕ). count_in (test w) t w.sequential) f

pub commuting : Commuting
unfolding Commuting step StaysCounted
commuting s x y true apart mx my w =
    let back : Apart y x = (λ e f. apart (sym e) (sym f)) in
    let ey = after_other s x y apart mx w.second w.second_later in
    let ex = after_other s y x back my w.first w.first_later in
    let d = (effect_of s x).store in
    let e = (effect_of s y).store in
    let xy = (step (step s x).state y).state in
    let yx = (step (step s y).state x).state in
    let cnv : xy.cnv ≡ yx.cnv = rw (← ex.store, ← ey.store) (stores_commute Conventional x y d e s.cnv (effect_names s x) (effect_names s y) apart) in
    let seq : xy.seq ≡ yx.seq = rw (← ex.store, ← ey.store) (stores_commute Sequential x y d e s.seq (effect_names s x) (effect_names s y) apart) in
    let volume = step_fixes (step s x).state y ∙ step_fixes s x ∙ sym (step_fixes (step s y).state x ∙ step_fixes s y) in
    let mark = sym ey.mark ∙ my ∙ sym (sym ex.mark ∙ mx) in
    let lx = step_limits s x in
    let ly = step_limits s y in
    let lxy = step_limits (step s x).state y in
    let lyx = step_limits (step s y).state x in
    let account =
    counted_same xy yx (stays_counted (step s x).state y (stays_counted s x true)) (stays_counted (step s y).state x (stays_counted s y true)) volume seq
    (lxy.0 ∙ lx.0 ∙ sym (lyx.0 ∙ ly.0)) (lxy.1 ∙ lx.1 ∙ sym (lyx.1 ∙ ly.1)) in
    record {
      first = sym ex.answer;
      second = sym ey.answer;
      state = same_state _ _ _ _ _ _ (same_mount xy.mount yx.mount volume mark account) cnv seq;
    }
