-- A mount value put into words and read back is the mount value, and so is one whose state is put into words that hold another. The state that
-- words hold changes none of them.
-- Assumes nothing.
use Prim.Native.Nat.{ℕ, zero, suc, ◌^◌, ◌≤◌, ◌<◌}
use native.Mathlib.Omega.{arith}
use native.Mathlib.Nat.{mod-eq_of_lt}
use mathlib.Core.Path.{◌≡◌, refl, ◌∙◌, ap, sym}
use mathlib.Core.Bool.{Bool, true, false}
use mathlib.Core.List.{List, ◌++◌}
use lib.ListN.{length, get_or, set, take, drop, length-drop, length-set, take-append-drop}
use lib.Seq.{take_all, set-get_or, get_or-set_same, get_or-set_other}
use borrow.Author.Tests.{ltb-true, lt-ltb, leb-true, le-leb}
use Rattle.types.specs.declared.Account.{Account}
use Rattle.types.specs.declared.Mount.{Mount}
use Rattle.types.specs.declared.Volume.{Volume}
use Rattle.types.specs.declared.ErrorPolicy.{ErrorPolicy}
use Rattle.types.specs.declared.ErrorPolicy.TheVariants.{RemountRo, ZoneRo, ZoneOffline, Repair}
use Rattle.types.specs.Codes.{flag_code, policy_code}
use Rattle.types.proofs.Tests.{both, and_left, and_right}
use Rattle.types.proofs.CodeLaws.{policy_back}
use Rattle.types.proofs.Volumes.{BoundedVolume}
use Rattle.wire.specs.Le.{le, little}
use Rattle.wire.proofs.Laws.{little-le}
use Rattle.answer_words.specs.Answers.{written}
use Rattle.mount_words.specs.Words.{mount_length, account_length, state_at, mount_words, account_words, word, short, is_flag, is_policy, good_volume, good_state, possible_mount, possible_account, possible, flag_from, volume_from, account_from, mount_from, with_state, with_counts, Holds}

-- CODES, back from their words, and within their codes

pub flag_back : (b : Bool) → flag_from (flag_code b) ≡ b
flag_back true = refl
flag_back false = refl

policy_small : (p : ErrorPolicy) → is_policy (policy_code p) ≡ true
policy_small RemountRo = refl
policy_small ZoneRo = refl
policy_small ZoneOffline = refl
policy_small Repair = refl

pub flag_small : (b : Bool) → is_flag (flag_code b) ≡ true
flag_small true = refl
flag_small false = refl

-- and the word back from its code

flag_there : (n : ℕ) → is_flag n ≡ true → flag_code (flag_from n) ≡ n
flag_there zero h = refl
flag_there (suc zero) h = refl
flag_there (suc (suc n)) h = absurd (omega (arith, ltb-true))

-- BYTES

uuid_back : (u : List ℕ) → ((k : ℕ) → get_or u k 0 < 256) → length u ≡ 16 → little 8 (le 8 u 0) ++ little 8 (le 8 u 8) ≡ u
uuid_back u small h =
    ap (λ (l : List ℕ). l ++ little 8 (le 8 u 8)) (little-le 8 u 0 small (omega arith))
    ∙ ap (λ (l : List ℕ). take 8 u ++ l) (little-le 8 u 8 small (omega arith) ∙ take_all 8 (drop 8 u) (omega (arith, length-drop 8 u)))
    ∙ take-append-drop 8 u

-- A MOUNT VALUE

-- what the types of its fields say of an account: numbers of 32 bits
pub record BoundedAccount (a : Account) : Type 0 where
  pub opened : a.opened < 2 ^ 32
  pub active : a.active < 2 ^ 32
  pub open_limit : a.open_limit < 2 ^ 32
  pub active_limit : a.active_limit < 2 ^ 32

-- words in front of which a mount value was put are possible
mount_possible : (m : Mount) (rest : List ℕ) → BoundedVolume m.volume → possible_mount (mount_words m ++ rest) ≡ true
unfolding possible_mount mount_words
mount_possible m rest v =
    let long : mount_length ≤ length (mount_words m ++ rest) = omega arith in
    simp (
      le-leb _ _ long,
      lt-ltb _ _ v.conventional,
      lt-ltb _ _ v.sequential,
      lt-ltb _ _ v.owner,
      lt-ltb _ _ v.group,
      lt-ltb _ _ v.mode,
      policy_small,
      flag_small,
    )

-- and so are those in front of which an account was put
account_possible : (a : Account) (rest : List ℕ) → BoundedAccount a → possible_account (account_words a ++ rest) ≡ true
unfolding possible_account account_words
account_possible a rest b =
    let long : account_length ≤ length (account_words a ++ rest) = omega arith in
    simp (le-leb _ _ long, lt-ltb _ _ b.opened, lt-ltb _ _ b.active, lt-ltb _ _ b.open_limit, lt-ltb _ _ b.active_limit)

-- and hold it
account_back : (a : Account) (rest : List ℕ) → BoundedAccount a → account_from (account_words a ++ rest) ≡ a
unfolding account_words
account_back a rest b = simp (mod-eq_of_lt b.opened, mod-eq_of_lt b.active, mod-eq_of_lt b.open_limit, mod-eq_of_lt b.active_limit)

pub mount_back : (m : Mount) (rest others : List ℕ) → BoundedVolume m.volume → BoundedAccount m.account
    → mount_from (mount_words m ++ rest) (account_words m.account ++ others) ≡ m
unfolding mount_from mount_words
mount_back m rest others v b =
    simp (
      mod-eq_of_lt v.conventional,
      mod-eq_of_lt v.sequential,
      mod-eq_of_lt v.owner,
      mod-eq_of_lt v.group,
      mod-eq_of_lt v.mode,
      policy_back,
      uuid_back m.volume.uuid v.bytes v.sixteen,
      flag_back,
      account_back m.account others b,
    )

-- so words hold a mount value that is put into them, whatever stood there
pub written_back : (w x : List ℕ) (m : Mount) → BoundedVolume m.volume → BoundedAccount m.account
    → Holds (written w (mount_words m)) (written x (account_words m.account)) m
unfolding written possible
written_back w x m v b =
    let rest = drop (length (mount_words m)) w in
    let others = drop (length (account_words m.account)) x in
    (both (mount_possible m rest v) (account_possible m.account others b), mount_back m rest others v b)

-- WHAT THE MOUNT FIXES, in the words beside that of the mark

volume_same : (w w' : List ℕ) → ((k : ℕ) → (k ≡ state_at → ⊥) → word w' k ≡ word w k) → (good_volume w' ≡ good_volume w) × (volume_from w' ≡ volume_from w)
volume_same w w' same =
    let at0 = same 0 (λ e. omega arith) in
    let at1 = same 1 (λ e. omega arith) in
    let at2 = same 2 (λ e. omega arith) in
    let at3 = same 3 (λ e. omega arith) in
    let at4 = same 4 (λ e. omega arith) in
    let at5 = same 5 (λ e. omega arith) in
    let at6 = same 6 (λ e. omega arith) in
    let at7 = same 7 (λ e. omega arith) in
    let at8 = same 8 (λ e. omega arith) in
    let at10 = same 10 (λ e. omega arith) in
    (rw (at1, at2, at3, at4, at5, at6, at10), rw (at0, at1, at2, at3, at4, at5, at6, at7, at8, at10))

-- A MARK, put into words

module _ (w : List ℕ) (m : Mount) where
  pub state_length : length (with_state w m) ≡ length w
  unfolding with_state
  state_length = length-set w state_at (flag_code m.readonly)

  -- no other word changes
  pub state_outside : (k : ℕ) → (k ≡ state_at → ⊥) → word (with_state w m) k ≡ word w k
  unfolding with_state
  state_outside k other = get_or-set_other w state_at k (flag_code m.readonly) 0 other

  state_mark : mount_length ≤ length w → word (with_state w m) state_at ≡ flag_code m.readonly
  unfolding with_state
  state_mark long = get_or-set_same w state_at (flag_code m.readonly) 0 (omega arith)

-- COUNTS, put into words

module _ (x : List ℕ) (a : Account) where
  pub counts-length : length (with_counts x a) ≡ length x
  unfolding with_counts
  counts-length = length-set (set x 0 a.opened) 1 a.active ∙ length-set x 0 a.opened

  -- no other word changes, those of the limits neither
  pub counts_outside : (k : ℕ) → 2 ≤ k → word (with_counts x a) k ≡ word x k
  unfolding with_counts
  counts_outside k far =
      get_or-set_other (set x 0 a.opened) 1 k a.active 0 (λ e. omega arith) ∙ get_or-set_other x 0 k a.opened 0 (λ e. omega arith)

  counts-opened : account_length ≤ length x → word (with_counts x a) 0 ≡ a.opened
  unfolding with_counts
  counts-opened long =
      get_or-set_other (set x 0 a.opened) 1 0 a.active 0 (λ e. omega arith) ∙ get_or-set_same x 0 a.opened 0 (omega arith)

  counts_active : account_length ≤ length x → word (with_counts x a) 1 ≡ a.active
  unfolding with_counts
  counts_active long = get_or-set_same (set x 0 a.opened) 1 a.active 0 (omega (arith, length-set x 0 a.opened))

-- A STATE, put into words

-- the second fixes what the first does: its volume, and its limits
pub record Fixes (m before : Mount) : Type 0 where
  pub volume : m.volume ≡ before.volume
  pub open_limit : m.account.open_limit ≡ before.account.open_limit
  pub active_limit : m.account.active_limit ≡ before.account.active_limit

mark_back : (w : List ℕ) (m : Mount) → possible_mount w ≡ true → m.volume ≡ volume_from w
    → (possible_mount (with_state w m) ≡ true) × (volume_from (with_state w m) ≡ m.volume) × (flag_from (word (with_state w m) state_at) ≡ m.readonly)
unfolding possible_mount
mark_back w m h fixes =
    let long : mount_length ≤ length w = leb-true _ _ (and_left _ _ h) in
    let good : good_volume w ≡ true = search (and_left, and_right) depth 9 in
    let v = volume_same w (with_state w m) (λ k other. state_outside w m k other) in
    let mark = state_mark w m long in
    let state : good_state (with_state w m) ≡ true = ap is_flag mark ∙ flag_small m.readonly in
    let still : mount_length ≤ length (with_state w m) = omega (arith, state_length w m) in
    (both (le-leb _ _ still) (both (v.0 ∙ good) state), v.1 ∙ sym fixes, ap flag_from mark ∙ flag_back m.readonly)

counts_back : (x : List ℕ) (a : Account) → possible_account x ≡ true → BoundedAccount a
    → a.open_limit ≡ (account_from x).open_limit → a.active_limit ≡ (account_from x).active_limit
    → (possible_account (with_counts x a) ≡ true) × (account_from (with_counts x a) ≡ a)
unfolding possible_account
counts_back x a h b one two =
    let long : account_length ≤ length x = leb-true _ _ (and_left _ _ h) in
    let third : short (word x 2) ≡ true = search (and_left, and_right) depth 9 in
    let fourth : short (word x 3) ≡ true = search (and_left, and_right) depth 9 in
    let still : account_length ≤ length (with_counts x a) = omega (arith, counts-length x a) in
    let at0 = counts-opened x a long in
    let at1 = counts_active x a long in
    let at2 = counts_outside x a 2 (omega arith) in
    let at3 = counts_outside x a 3 (omega arith) in (
      rw (le-leb _ _ still, at0, at1, at2, at3, lt-ltb _ _ b.opened, lt-ltb _ _ b.active, third, fourth),
      rw (at0, at1, at2, at3, ← one, ← two, mod-eq_of_lt b.opened, mod-eq_of_lt b.active),
    )

assembled : (m : Mount) {v : Volume} {r : Bool} {a : Account} → v ≡ m.volume → r ≡ m.readonly → a ≡ m.account
    → record { volume = v; readonly = r; account = a } ≡ m
assembled m a b c = rw (a, b, c)

-- words that hold a mount value hold another that fixes the same, once its state is put into them
pub state_back : (w x : List ℕ) (m : Mount) → possible w x ≡ true → Fixes m (mount_from w x) → BoundedAccount m.account
    → Holds (with_state w m) (with_counts x m.account) m
unfolding possible mount_from
state_back w x m h fixes bounded =
    let (mount, volume, mark) = mark_back w m (and_left _ _ h) fixes.volume in
    let (account, counts) = counts_back x m.account (and_right (possible_mount w) _ h) bounded fixes.open_limit fixes.active_limit in
    (both mount account, assembled m volume mark counts)

-- the state that words hold changes none of them
mark_stays : (w x : List ℕ) → possible_mount w ≡ true → with_state w (mount_from w x) ≡ w
unfolding with_state possible_mount mount_from
mark_stays w x h =
    let flag : is_flag (word w state_at) ≡ true = search (and_left, and_right) depth 9 in
    rw (flag_there (word w state_at) flag, set-get_or w state_at 0)

counts_stay : (x : List ℕ) → possible_account x ≡ true → with_counts x (account_from x) ≡ x
unfolding with_counts possible_account
counts_stay x h =
    let first : short (word x 0) ≡ true = search (and_left, and_right) depth 9 in
    let second : short (word x 1) ≡ true = search (and_left, and_right) depth 9 in
    rw (mod-eq_of_lt (ltb-true (word x 0) _ first), mod-eq_of_lt (ltb-true (word x 1) _ second), set-get_or x 0 0, set-get_or x 1 0)

pub state_stays : (w x : List ℕ) → possible w x ≡ true → (with_state w (mount_from w x) ≡ w) × (with_counts x (mount_from w x).account ≡ x)
unfolding possible mount_from
state_stays w x h = (mark_stays w x (and_left _ _ h), counts_stay x (and_right (possible_mount w) _ h))
