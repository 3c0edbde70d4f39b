-- What the shared checks tell, and what passes them. Whoever uses these opens none of the chains.
-- Assumes nothing.
use Rattle.std.specs.Prelude.{Ok, Err, Some, None}
use Prim.Native.Nat.{ℕ, ◌+◌, ◌/◌, ◌^◌, ◌≤◌, ◌<◌}
use native.Mathlib.Omega.{arith}
use mathlib.Core.Path.{◌≡◌, refl, ap}
use mathlib.Core.Bool.{Bool, true, false, not, ◌&&◌, ◌||◌, cond, false≢true}
use mathlib.Core.List.{List}
use lib.ListN.{length}
use lib.Dec.{leb, ltb, eqb}
use borrow.Author.Tests.{leb-true, ltb-true, ltb-false, eqb-true, le-leb, lt-ltb, eq-eqb}
use Rattle.types.specs.declared.Volume.{Volume}
use Rattle.types.specs.declared.Mount.{Mount}
use Rattle.types.specs.declared.Row.{Row}
use Rattle.types.specs.declared.FileKind.{FileKind}
use Rattle.types.specs.declared.FileKind.TheVariants.{Conventional, Sequential}
use Rattle.types.specs.declared.Condition.{Condition}
use Rattle.types.specs.declared.Condition.TheVariants as condition
use Rattle.types.specs.declared.Access.{Access}
use Rattle.types.specs.declared.Access.TheVariants as access
use Rattle.types.specs.declared.Refusal.TheVariants as refusal
use Rattle.types.specs.Blocks.{sector_bytes, block_sectors, good_block, on_block, most_files}
use Rattle.types.specs.Kinds.{of_kind, files_of}
use Rattle.types.specs.Predicates.{means, is_conventional, is_read_only, is_offline, is_none, is_write}
use Rattle.types.proofs.Tests.{both, and_left, and_right, means_in, means_out}
use Rattle.types.proofs.PredicateLaws.{none_is, some_is, conventional-is}
use Rattle.account.specs.Account.{is_open, account_fits, counted}
use Rattle.account.specs.Facts.{Room}
use Rattle.account.proofs.Laws.{fits_room}
use Rattle.table.specs.Rows.{Slot}
use Rattle.table.specs.Rows.{rows_lent, row_at}
use Rattle.checks.specs.Checks.{Lookup}
use Rattle.checks.specs.Checks.{files_fit, counts_fit, row_in, lookup_of, allowed, full, openable, sound_row, sound_slot, found_row, file_of}
use Rattle.checks.specs.Facts.{SoundRow, Reached, ruled_slot, counted_file}

-- 10 (COUNTS)

module _ (m : Mount) (c s : ℕ) (h : counts_fit m c s ≡ true) where
  abbrev files : Bool
  files = files_fit m.volume.conventional c && files_fit m.volume.sequential s

  counts_rest : files && good_block m.volume.block ≡ true
  unfolding counts_fit
  counts_rest = and_left _ (account_fits m.volume m.account) h

  pub counts_good : good_block m.volume.block ≡ true
  counts_good = and_right files _ counts_rest

  pub counts_account : account_fits m.volume m.account ≡ true
  unfolding counts_fit
  counts_account = and_right (files && good_block m.volume.block) _ h

  counts_files : (k : FileKind) → files_fit (files_of k m.volume) (of_kind k c s) ≡ true
  counts_files Conventional = and_left _ (files_fit m.volume.sequential s) (and_left _ (good_block m.volume.block) counts_rest)
  counts_files Sequential = and_right (files_fit m.volume.conventional c) _ (and_left _ (good_block m.volume.block) counts_rest)

  pub counts-lent : (k : FileKind) → files_of k m.volume ≤ rows_lent (of_kind k c s)
  counts-lent k = leb-true (files_of k m.volume) (rows_lent (of_kind k c s)) (and_left _ _ (counts_files k))

  pub counts_most : (k : FileKind) → files_of k m.volume ≤ most_files
  counts_most k = leb-true (files_of k m.volume) most_files (and_right (leb (files_of k m.volume) (rows_lent (of_kind k c s))) _ (counts_files k))

  pub counts_room : Room m.account
  counts_room = fits_room m.volume m.account counts_account (counts_most Sequential)

-- and the other way round
pub counts_in : (m : Mount) (c s : ℕ) → ((k : FileKind) → files_of k m.volume ≤ rows_lent (of_kind k c s)) → ((k : FileKind) → files_of k m.volume ≤ most_files)
    → good_block m.volume.block ≡ true → account_fits m.volume m.account ≡ true → counts_fit m c s ≡ true
unfolding counts_fit
counts_in m c s lent most good account =
    both (both (both (both (le-leb _ (rows_lent c) (lent Conventional)) (le-leb _ most_files (most Conventional)))
    (both (le-leb _ (rows_lent s) (lent Sequential)) (le-leb _ most_files (most Sequential)))) good) account

-- 10 (ROW)

not-write : (a : Access) → not (is_write a) ≡ true → a ≡ access.Write → ⊥
not-write a h e = false≢true (rw e at h)

unwritten : (a : Access) → (a ≡ access.Write → ⊥) → not (is_write a) ≡ true
unwritten access.Nothing h = refl
unwritten access.Read h = refl
unwritten access.Write h = absurd (h refl)

write-is : (a : Access) → is_write a ≡ true → a ≡ access.Write
write-is access.Nothing h = absurd (false≢true h)
write-is access.Read h = absurd (false≢true h)
write-is access.Write h = refl

not_none : (a : Access) → not (is_none a) ≡ true → a ≡ access.Nothing → ⊥
not_none a h e = false≢true (rw e at h)

offline_is : (c : Condition) → is_offline c ≡ true → c ≡ condition.Offline
offline_is condition.Healthy h = absurd (false≢true h)
offline_is condition.ReadOnly h = absurd (false≢true h)
offline_is condition.Offline h = refl

readonly_is : (c : Condition) → is_read_only c ≡ true → c ≡ condition.ReadOnly
readonly_is condition.Healthy h = absurd (false≢true h)
readonly_is condition.ReadOnly h = refl
readonly_is condition.Offline h = absurd (false≢true h)

-- what each access allows
and-true : (b : Bool) → b ≡ b && true
and-true true = refl
and-true false = refl

pub allowed_none : (c : Condition) (size : ℕ) → eqb size 0 ≡ allowed c access.Nothing size
allowed_none condition.Healthy size = and-true (eqb size 0)
allowed_none condition.ReadOnly size = and-true (eqb size 0)
allowed_none condition.Offline size = and-true (eqb size 0)

pub allowed-read : (c : Condition) (size : ℕ) → not (is_offline c) ≡ allowed c access.Read size
allowed-read condition.Healthy size = refl
allowed-read condition.ReadOnly size = refl
allowed-read condition.Offline size = refl

pub allowed-write : (c : Condition) (size : ℕ) → not (is_offline c) && not (is_read_only c) ≡ allowed c access.Write size
allowed-write condition.Healthy size = refl
allowed-write condition.ReadOnly size = refl
allowed-write condition.Offline size = refl

-- a conventional file without access, or a full one
pub full-conventional : (a : Access) (size capacity : ℕ) → is_none a || eqb size capacity ≡ full Conventional a size capacity
full-conventional access.Nothing size capacity = refl
full-conventional access.Read size capacity = refl
full-conventional access.Write size capacity = refl

module _ (block : ℕ) (k : FileKind) (r : Row) where
  pub sound_row_lem : sound_row block k r ≡ true → SoundRow block k r
  unfolding sound_row
  sound_row_lem h =
      let a1 : ltb 0 r.start ≡ true = search (and_left, and_right) depth 12 in
      let a2 : on_block (block_sectors block) r.start ≡ true = search (and_left, and_right) depth 12 in
      let a3 : ltb 0 r.capacity ≡ true = search (and_left, and_right) depth 12 in
      let a4 : on_block block r.capacity ≡ true = search (and_left, and_right) depth 12 in
      let a5 : leb (r.start + r.capacity / sector_bytes) (2 ^ 40) ≡ true = search (and_left, and_right) depth 12 in
      let a6 : on_block block r.size ≡ true = search (and_left, and_right) depth 12 in
      let a7 : leb r.size r.capacity ≡ true = search (and_left, and_right) depth 12 in
      let b1 : means (is_offline r.condition) (is_none r.access) ≡ true = search (and_left, and_right) depth 12 in
      let b2 : means (is_none r.access) (eqb r.size 0) ≡ true = search (and_left, and_right) depth 12 in
      let b3 : means (is_read_only r.condition) (not (is_write r.access)) ≡ true = search (and_left, and_right) depth 12 in
      let b4 : full k r.access r.size r.capacity ≡ true = search (and_left, and_right) depth 12 in
      let b5 : openable r ≡ true = search (and_left, and_right) depth 12 in
      record {
        started = ltb-true 0 r.start a1;
        aligned = eqb-true _ 0 a2;
        roomy = ltb-true 0 r.capacity a3;
        whole = eqb-true _ 0 a4;
        ends = leb-true (r.start + r.capacity / sector_bytes) (2 ^ 40) a5;
        blocks = eqb-true _ 0 a6;
        within = leb-true r.size r.capacity a7;
        offline = λ e. none_is r.access (means_out (is_offline r.condition) _ b1 (rw e));
        none = λ e. eqb-true r.size 0 (means_out (is_none r.access) _ b2 (rw e));
        readonly = λ e. not-write r.access (means_out (is_read_only r.condition) _ b3 (rw e));
        full = λ e n. eqb-true r.size r.capacity (means_out (is_conventional k && not (is_none r.access)) _ b4 (both (ap is_conventional e) (some_is r.access n)));
        openable = λ e. write-is r.access (means_out (is_open r) _ b5 (lt-ltb 0 r.opens e));
      }

  -- and the other way round
  pub row_sound : SoundRow block k r → sound_row block k r ≡ true
  unfolding sound_row
  row_sound w =
      let starts = both (lt-ltb 0 r.start w.started) (eq-eqb _ 0 w.aligned) in
      let holds = both (lt-ltb 0 r.capacity w.roomy) (eq-eqb _ 0 w.whole) in
      let ends = le-leb (r.start + r.capacity / sector_bytes) (2 ^ 40) w.ends in
      let sized = both (eq-eqb _ 0 w.blocks) (le-leb r.size r.capacity w.within) in
      let offline = means_in (is_offline r.condition) _ (λ e. ap is_none (w.offline (offline_is r.condition e))) in
      let none = means_in (is_none r.access) _ (λ e. eq-eqb r.size 0 (w.none (none_is r.access e))) in
      let readonly = means_in (is_read_only r.condition) _ (λ e. unwritten r.access (w.readonly (readonly_is r.condition e))) in
      let full = means_in (is_conventional k && not (is_none r.access)) _ (λ e.
      eq-eqb r.size r.capacity (w.full (conventional-is k (and_left _ _ e)) (not_none r.access (and_right (is_conventional k) _ e)))) in
      let openable = means_in (is_open r) _ (λ e. ap is_write (w.openable (ltb-true 0 r.opens e))) in
      both (both (both (both (both (both starts holds) ends) sized) (both (both offline none) readonly)) full) openable

  pub sound_ends : sound_row block k r ≡ true → r.start + r.capacity / sector_bytes ≤ 2 ^ 40
  sound_ends h = (sound_row_lem h).ends

  pub sound_openable : sound_row block k r ≡ true → openable r ≡ true
  sound_openable h = means_in (is_open r) _ (λ e. ap is_write ((sound_row_lem h).openable (ltb-true 0 r.opens e)))

-- 10 (COUNTS), 1, 10 (ROW)

in_table : (t : List ℕ) (n i : ℕ) (x : Slot) → row_in t n i ≡ Some x → (i < n) × (row_at t i ≡ x)
in_table t n i x h = by (ltb i n) (row_at t i) refl h
  where
    by : (b : Bool) (y : Slot) → ltb i n ≡ b → cond b (Some y) None ≡ Some x → (i < n) × (y ≡ x)
    by true y e q = (ltb-true i n e, cc)
    by false y e q = let z : ◌≡◌ {A = ℕ} 0 1 = cc in absurd (omega arith)

not_in_table : (t : List ℕ) (n i : ℕ) → row_in t n i ≡ None → n ≤ i
not_in_table t n i h = by (ltb i n) refl h
  where
    by : (b : Bool) → ltb i n ≡ b → cond b (Some (row_at t i)) None ≡ None → n ≤ i
    by true e q = let z : ◌≡◌ {A = ℕ} 0 1 = cc in absurd (omega arith)
    by false e q = ltb-false i n e

module _ (v : Volume) (cnv seq : List ℕ) (k : FileKind) (i : ℕ) where
  pub lookup_some : (x : Slot) → lookup_of v cnv seq k i ≡ Some x → i < files_of k v
  unfolding lookup_of
  lookup_some x e = (in_table (of_kind k cnv seq) (files_of k v) i x e).0

  pub lookup_none : lookup_of v cnv seq k i ≡ None → files_of k v ≤ i
  unfolding lookup_of
  lookup_none e = not_in_table (of_kind k cnv seq) (files_of k v) i e

module _ (m : Mount) (cnv seq : List ℕ) (k : FileKind) (i : ℕ) (r : Row) where
  -- a row that is found and sound
  reached : counts_fit m (length cnv) (length seq) ≡ true → lookup_of m.volume cnv seq k i ≡ Some (Ok r)
      → sound_row m.volume.block k r && counted m k r ≡ true → Reached m cnv seq k i r
  unfolding lookup_of
  reached h e d =
      let (l, q) = in_table (of_kind k cnv seq) (files_of k m.volume) i (Ok r) e in
      record { counts = h; number = l; row = q; sound = and_left _ (counted m k r) d; counted = and_right (sound_row m.volume.block k r) _ d }

  pub file_reached : file_of m cnv seq k i ≡ Ok r → Reached m cnv seq k i r
  unfolding file_of
  file_reached e = counting (counts_fit m (length cnv) (length seq)) refl e
    where
      sounded : (y : Row) (t : Bool) → sound_row m.volume.block k y && counted m k y ≡ t → counts_fit m (length cnv) (length seq) ≡ true
          → lookup_of m.volume cnv seq k i ≡ Some (Ok y)
          → cond t (Ok y) (Err refusal.Impossible) ≡ Ok r → Reached m cnv seq k i r
      sounded y true d h f e = let q : y ≡ r = cc in reached h (rw q at f) (rw q at d)
      sounded y false d h f e = let z : ◌≡◌ {A = ℕ} 0 1 = cc in absurd (omega arith)

      looked : (x : Lookup) → counts_fit m (length cnv) (length seq) ≡ true → lookup_of m.volume cnv seq k i ≡ x → found_row m k x ≡ Ok r → Reached m cnv seq k i r
      looked (Some (Ok y)) h f e = sounded y (sound_row m.volume.block k y && counted m k y) refl h f e
      looked (Some (Err o)) h f e = let z : ◌≡◌ {A = ℕ} 0 1 = cc in absurd (omega arith)
      looked None h f e = let z : ◌≡◌ {A = ℕ} 0 1 = cc in absurd (omega arith)

      counting : (t : Bool) → counts_fit m (length cnv) (length seq) ≡ t
          → cond t (found_row m k (lookup_of m.volume cnv seq k i)) (Err refusal.Impossible) ≡ Ok r → Reached m cnv seq k i r
      counting true h e = looked (lookup_of m.volume cnv seq k i) h refl e
      counting false h e = let z : ◌≡◌ {A = ℕ} 0 1 = cc in absurd (omega arith)

  pub reached_file : Reached m cnv seq k i r → file_of m cnv seq k i ≡ Ok r
  unfolding file_of lookup_of
  reached_file w = simp (w.counts, lt-ltb i (files_of k m.volume) w.number, w.row, w.sound, w.counted)

  -- its row is lent
  pub reached_lent : Reached m cnv seq k i r → i < rows_lent (length (of_kind k cnv seq))
  reached_lent w = lent k w.number (counts-lent m (length cnv) (length seq) w.counts k)
    where
      lent : (k : FileKind) → i < files_of k m.volume → files_of k m.volume ≤ rows_lent (of_kind k (length cnv) (length seq)) → i < rows_lent (length (of_kind k cnv seq))
      lent Conventional a b = omega arith
      lent Sequential a b = omega arith

  pub reached_sound : Reached m cnv seq k i r → SoundRow m.volume.block k r
  reached_sound w = sound_row_lem m.volume.block k r w.sound

-- in order: what the file is where a check refuses it, and past the counts and the lookup
module _ (m : Mount) (cnv seq : List ℕ) (k : FileKind) (i : ℕ) where
  pub file_counts : counts_fit m (length cnv) (length seq) ≡ false → file_of m cnv seq k i ≡ Err refusal.Impossible
  unfolding file_of
  file_counts h = rw h

  pub file_none : counts_fit m (length cnv) (length seq) ≡ true → lookup_of m.volume cnv seq k i ≡ None → file_of m cnv seq k i ≡ Err refusal.NoFile
  unfolding file_of
  file_none h e = rw (h, e)

  pub file_found : {x : Slot} → counts_fit m (length cnv) (length seq) ≡ true → lookup_of m.volume cnv seq k i ≡ Some x → file_of m cnv seq k i ≡ sound_slot m k x
  unfolding file_of
  file_found h e = rw (h, e)

-- 10 (row) in two steps
pub slot_counted : (m : Mount) (k : FileKind) (x : Slot) → counted_file m k (ruled_slot m.volume.block k x) ≡ sound_slot m k x
slot_counted m k (Ok r) = by (sound_row m.volume.block k r)
  where
    by : (p : Bool) → counted_file m k (cond p (Ok r) (Err refusal.Impossible)) ≡ cond (p && counted m k r) (Ok r) (Err refusal.Impossible)
    by true = refl
    by false = refl
slot_counted m k (Err o) = refl
