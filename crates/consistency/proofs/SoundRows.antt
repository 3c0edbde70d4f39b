-- A sound row stays sound: after a command that was done, and after one that failed with a record that fits.
-- Assumes nothing.
use Prim.Native.Nat.{ℕ, ◌+◌, ◌%◌, ◌≤◌, ◌<◌}
use native.Mathlib.Omega.{arith}
use native.Mathlib.Nat.{zero-mod}
use mathlib.Core.Path.{◌≡◌, refl, sym, ◌∙◌}
use mathlib.Core.Bool.{Bool, true, false, not, cond, ◌||◌, false≢true}
use lib.Dec.{eqb}
use borrow.Author.Tests.{eqb-true}
use Rattle.types.specs.declared.Row.{Row}
use Rattle.types.specs.declared.Command.{Command}
use Rattle.types.specs.declared.CommandKind.{CommandKind}
use Rattle.types.specs.declared.Movement.{Movement}
use Rattle.types.specs.declared.Movement.TheVariants.{Stays, Advances, ToStart, ToEnd}
use Rattle.types.specs.declared.FileKind.{FileKind}
use Rattle.types.specs.declared.FileKind.TheVariants.{Conventional, Sequential}
use Rattle.types.specs.declared.Condition.{Condition}
use Rattle.types.specs.declared.Condition.TheVariants as condition
use Rattle.types.specs.declared.Access.{Access}
use Rattle.types.specs.declared.Access.TheVariants as access
use Rattle.types.specs.declared.ErrorPolicy.{ErrorPolicy}
use Rattle.types.specs.declared.ErrorPolicy.TheVariants.{RemountRo, ZoneRo, ZoneOffline, Repair}
use Rattle.types.specs.Blocks.{bytes_of, block_sectors}
use Rattle.types.specs.Commands.{movement_of, is_opening}
use Rattle.types.specs.Predicates.{is_none, is_write, is_healthy}
use Rattle.types.proofs.Blocks.{IsBlock, small, large}
use Rattle.types.proofs.Tests.{both, and_left, and_right, or_right}
use Rattle.table.specs.Rows.{with_size, with_opens, recovered_to}
use Rattle.zones.specs.declared.Zone.{Zone}
use Rattle.zones.specs.Zone.{sequential, condition_of, healthy, good_record}
use Rattle.checks.specs.Facts.{SoundRow}
use Rattle.held.proofs.Issued.{Placed, Issued}
use Rattle.recovery.specs.Success.{size_after, row_after}
use Rattle.recovery.specs.Fits.{matches_sequential, record_fits}
use Rattle.recovery.specs.Grid.{recovery_grid, rule_of}
use Rattle.recovery.specs.Recovery.{fixed_size, read_at_most, ruled_size, ruled_access, recovered_row, kept_open}
use Rattle.consistency.proofs.Sizes.{written_well}

some_access : (a : Access) → is_none a ≡ false → a ≡ access.Nothing → ⊥
some_access a h e = false≢true (sym (rw e at h))

module _ {b : ℕ} {k : FileKind} {r : Row} (s : SoundRow b k r) where
  -- with other opens, which take write access
  pub sound_opens : (n : ℕ) → (0 < n → r.access ≡ access.Write) → SoundRow b k (with_opens r n)
  sound_opens n writes =
      record {
        started = s.started;
        aligned = s.aligned;
        roomy = s.roomy;
        whole = s.whole;
        ends = s.ends;
        blocks = s.blocks;
        within = s.within;
        offline = s.offline;
        none = s.none;
        readonly = s.readonly;
        full = s.full;
        openable = writes;
      }

  -- a row without access and opens, and empty
  sound_lost : r.opens ≡ 0 → (c : Condition) → SoundRow b k (recovered_to r 0 c access.Nothing)
  sound_lost closed c =
      record {
        started = s.started;
        aligned = s.aligned;
        roomy = s.roomy;
        whole = s.whole;
        ends = s.ends;
        blocks = zero-mod b;
        within = omega arith;
        offline = λ e. refl;
        none = λ e. refl;
        readonly = λ e f. let x : ◌≡◌ {A = ℕ} 0 1 = cc in omega arith;
        full = λ e n. absurd (n refl);
        openable = λ e. absurd (omega (arith, closed));
      }

  -- a row with some access, before and after: the size of a cnv file stays
  module _ (some : is_none r.access ≡ false) where
    sound_changed : (size : ℕ) (c : Condition) (a : Access) → (k ≡ Conventional → size ≡ r.size) → size % b ≡ 0 → size ≤ r.capacity
        → (c ≡ condition.Offline → ⊥) → (a ≡ access.Nothing → ⊥) → (c ≡ condition.ReadOnly → a ≡ access.Write → ⊥) → (0 < r.opens → a ≡ access.Write) → SoundRow b k (recovered_to r size c a)
    sound_changed size c a same whole fits online has readonly writes =
        record {
          started = s.started;
          aligned = s.aligned;
          roomy = s.roomy;
          whole = s.whole;
          ends = s.ends;
          blocks = whole;
          within = fits;
          offline = λ e. absurd (online e);
          none = λ e. absurd (has e);
          readonly = readonly;
          full = λ e n. same e ∙ s.full e (some_access r.access some);
          openable = writes;
        }

    -- A COMMAND THAT WAS DONE

    sound_sized : (size : ℕ) → (k ≡ Conventional → size ≡ r.size) → size % b ≡ 0 → size ≤ r.capacity → SoundRow b k (with_size r size)
    sound_sized size same whole fits =
        let has = some_access r.access some in
        sound_changed size r.condition r.access same whole fits (λ e. has (s.offline e)) has s.readonly s.openable

whole_sum : {b : ℕ} → IsBlock b → (x y : ℕ) → x % b ≡ 0 → y % b ≡ 0 → (x + y) % b ≡ 0
whole_sum small x y e f = omega arith
whole_sum large x y e f = omega arith

differ : Sequential ≡ Conventional → ⊥
differ e = let x : ◌≡◌ {A = ℕ} 0 1 = cc in omega arith

-- no cnv file is truncated
to_start : ((ToStart ≡ Stays → ⊥) → ToStart ≡ Advances) → ⊥
to_start f = let e = f (λ e. let x : ◌≡◌ {A = ℕ} 0 1 = cc in omega arith) in let x : ◌≡◌ {A = ℕ} 0 1 = cc in omega arith

to_end : ((ToEnd ≡ Stays → ⊥) → ToEnd ≡ Advances) → ⊥
to_end f = let e = f (λ e. let x : ◌≡◌ {A = ℕ} 0 1 = cc in omega arith) in let x : ◌≡◌ {A = ℕ} 0 1 = cc in omega arith

moved_sound : {b : ℕ} {r : Row} {c : Command} (k : FileKind) (v : Movement) → IsBlock b → SoundRow b k r → is_none r.access ≡ false
    → (k ≡ Sequential → v ≡ Advances → Placed b r c) → (k ≡ Conventional → (v ≡ Stays → ⊥) → v ≡ Advances) → SoundRow b k (with_size r (size_after k v c.length r))
moved_sound {r = r} k Stays block s some p t = sound_sized s some r.size (λ e. refl) s.blocks s.within
moved_sound {r = r} Conventional Advances block s some p t = sound_sized s some r.size (λ e. refl) s.blocks s.within
moved_sound {r = r} {c = c} Sequential Advances block s some p t =
    let placed = p refl refl in
    sound_sized s some (r.size + c.length) (λ e. absurd (differ e)) (whole_sum block r.size c.length s.blocks placed.whole) placed.room
moved_sound Conventional ToStart block s some p t = absurd (to_start (t refl))
moved_sound {b} Sequential ToStart block s some p t = sound_sized s some 0 (λ e. absurd (differ e)) (zero-mod b) (omega arith)
moved_sound Conventional ToEnd block s some p t = absurd (to_end (t refl))
moved_sound {r = r} Sequential ToEnd block s some p t = sound_sized s some r.capacity (λ e. absurd (differ e)) s.whole (omega arith)

pub success_sound : {b : ℕ} {r : Row} {c : Command} (k : FileKind) → IsBlock b → SoundRow b k r → Issued b k r c → SoundRow b k (row_after k c r)
success_sound {c = c} k block s i = moved_sound k (movement_of c.kind) block s i.readable i.placed i.untruncated

-- A COMMAND THAT FAILED

-- a size that is fixed by a healthy record of the file's zone
record FixedWell (b : ℕ) (k : FileKind) (r : Row) (size : ℕ) : Type 0 where
  plain : k ≡ Conventional → size ≡ r.size
  whole : size % b ≡ 0
  fits : size ≤ r.capacity

fixed_well : {b : ℕ} {r : Row} (k : FileKind) (z : Zone) → IsBlock b → SoundRow b k r → record_fits b k r z ≡ true → healthy z ≡ true → FixedWell b k r (fixed_size k z r.size)
unfolding record_fits matches_sequential
fixed_well Conventional z block s fits h = record { plain = λ e. refl; whole = s.blocks; fits = s.within }
fixed_well {b} {r} Sequential z block s fits h =
    let good : good_record (block_sectors b) z ≡ true = search (and_left, and_right) depth 9 in
    let kind : sequential z ≡ true = search (and_left, and_right) depth 9 in
    let start : eqb z.start r.start ≡ true = search (and_left, and_right) depth 9 in
    let capacity : eqb (bytes_of z.capacity) r.capacity ≡ true = search (and_left, and_right) depth 9 in
    let from : z.start ≡ r.start = eqb-true _ _ start in
    let w = written_well block z good (rw from s.aligned) (both kind h) in
    record {
      plain = λ e. absurd (differ e);
      whole = w.blocks;
      fits = omega (arith, eqb-true (bytes_of z.capacity) r.capacity capacity, w.within);
    }

-- "fixed", and "as is, read", of a row without opens
healthy_sound : {b : ℕ} {k : FileKind} {r : Row} (size : ℕ) (a : Access) → SoundRow b k r → r.opens ≡ 0 → is_none r.access ≡ false → FixedWell b k r size → is_none a ≡ false
    → SoundRow b k (recovered_to r size condition.Healthy a)
healthy_sound size a s closed some w has =
    sound_changed s some size condition.Healthy a w.plain w.whole w.fits
    (λ e. let x : ◌≡◌ {A = ℕ} 0 1 = cc in omega arith) (some_access a has) (λ e f. let x : ◌≡◌ {A = ℕ} 0 1 = cc in omega arith)
    (λ e. absurd (omega (arith, closed)))

read_some : (a : Access) → is_none a ≡ false → is_none (read_at_most a) ≡ false
read_some access.Nothing h = h
read_some access.Read h = refl
read_some access.Write h = refl

read-unwritten : (a : Access) → read_at_most a ≡ access.Write → ⊥
read-unwritten access.Nothing e = let x : ◌≡◌ {A = ℕ} 0 1 = cc in omega arith
read-unwritten access.Read e = let x : ◌≡◌ {A = ℕ} 0 1 = cc in omega arith
read-unwritten access.Write e = let x : ◌≡◌ {A = ℕ} 0 1 = cc in omega arith

readonly_sound : {b : ℕ} {k : FileKind} {r : Row} → SoundRow b k r → r.opens ≡ 0 → is_none r.access ≡ false → SoundRow b k (recovered_to r r.size condition.ReadOnly (read_at_most r.access))
readonly_sound {r = r} s closed some =
    sound_changed s some r.size condition.ReadOnly (read_at_most r.access) (λ e. refl) s.blocks s.within
    (λ e. let x : ◌≡◌ {A = ℕ} 0 1 = cc in omega arith) (some_access _ (read_some r.access some)) (λ e. read-unwritten r.access) (λ e. absurd (omega (arith, closed)))

module _ {b : ℕ} {k : FileKind} {r : Row} (z : Zone) (s : SoundRow b k r) (closed : r.opens ≡ 0) (some : is_none r.access ≡ false) where
  -- by option and condition
  ruled_sound : (p : ErrorPolicy) (c : Condition) → (is_healthy c ≡ true → FixedWell b k r (fixed_size k z r.size))
      → SoundRow b k (recovered_to r (ruled_size (rule_of recovery_grid p c).size k z r.size) c (ruled_access (rule_of recovery_grid p c).access r.access))
  ruled_sound RemountRo condition.Healthy w = healthy_sound _ r.access s closed some (w refl) some
  ruled_sound RemountRo condition.ReadOnly w = readonly_sound s closed some
  ruled_sound RemountRo condition.Offline w = sound_lost s closed condition.Offline
  ruled_sound ZoneRo condition.Healthy w = healthy_sound _ (read_at_most r.access) s closed some (w refl) (read_some r.access some)
  ruled_sound ZoneRo condition.ReadOnly w = readonly_sound s closed some
  ruled_sound ZoneRo condition.Offline w = sound_lost s closed condition.Offline
  ruled_sound ZoneOffline condition.Healthy w = sound_lost s closed condition.Healthy
  ruled_sound ZoneOffline condition.ReadOnly w = sound_lost s closed condition.ReadOnly
  ruled_sound ZoneOffline condition.Offline w = sound_lost s closed condition.Offline
  ruled_sound Repair condition.Healthy w = healthy_sound _ r.access s closed some (w refl) some
  ruled_sound Repair condition.ReadOnly w = readonly_sound s closed some
  ruled_sound Repair condition.Offline w = sound_lost s closed condition.Offline

-- a row that keeps its opens has write access
writing : (a : Access) → not (is_write a) ≡ false → a ≡ access.Write
writing access.Nothing e = absurd (false≢true (sym e))
writing access.Read e = absurd (false≢true (sym e))
writing access.Write e = refl

kept_sound : {b : ℕ} {k : FileKind} (q : Row) (lost : Bool) → SoundRow b k (with_opens q 0) → (lost ≡ false → q.access ≡ access.Write)
    → SoundRow b k (with_opens q (cond lost 0 q.opens))
kept_sound q true s writes = s
kept_sound q false s writes = sound_opens s q.opens (λ e. writes refl)

module _ {b : ℕ} {k : FileKind} {r : Row} (z : Zone) (s : SoundRow b k r) (some : is_none r.access ≡ false) (p : ErrorPolicy) (block : IsBlock b) (fits : record_fits b k r z ≡ true) where
  closed_sound : SoundRow b k (with_opens (recovered_row p k z r) 0)
  unfolding recovered_row
  closed_sound =
      ruled_sound z (sound_opens s 0 (λ e. absurd (omega arith))) refl some p (condition_of z)
      (λ h. let w = fixed_well k z block s fits h in record { plain = w.plain; whole = w.whole; fits = w.fits })

  pub recovered_sound : (failed : CommandKind) → SoundRow b k (kept_open failed (recovered_row p k z r))
  recovered_sound failed =
      let q = recovered_row p k z r in
      kept_sound q (is_opening failed || not (is_write q.access)) closed_sound (λ e. writing q.access (or_right (is_opening failed) _ e))
