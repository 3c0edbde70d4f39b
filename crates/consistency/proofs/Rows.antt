-- The rows of a good report's files are sound, and have nothing outstanding.
-- Assumes nothing.
use mathlib.Core.Bool.{Bool, true, false, not, ◌&&◌, ◌||◌, false≢true}
use mathlib.Core.List.{List, [], ◌∷◌, map}
use mathlib.Core.Path.{◌≡◌, refl, sym, subst}
use Prim.Native.Nat.{ℕ, zero, suc, ◌+◌, ◌%◌, ◌^◌, ◌≤◌, ◌<◌}
use native.Mathlib.Nat.{zero-mod}
use native.Mathlib.Omega.{arith}
use borrow.Author.Tests.{leb-true, ltb-true, eqb-true}
use lib.Dec.{leb, ltb, eqb}
use lib.ListN.{length, get_or, drop}
use Rattle.types.specs.declared.Row.{Row}
use Rattle.types.specs.declared.FileKind.{FileKind}
use Rattle.types.specs.declared.FileKind.TheVariants.{Conventional, Sequential}
use Rattle.types.specs.declared.Outstanding.TheVariants.{Idle}
use Rattle.types.specs.Blocks.{bytes_of, block_sectors, on_block}
use Rattle.types.proofs.Blocks.{IsBlock}
use Rattle.types.proofs.Tests.{both, and_left, and_right, means_out}
use Rattle.zones.specs.declared.Zone.{Zone}
use Rattle.zones.specs.Zone.{conventional, sequential, healthy, written_size, says_size, good_record}
use Rattle.zones.proofs.Laws.{record_told, zone-told}
use Rattle.files.specs.Files.{file_row, row_if, seq_rows, starts_conventional, runs_with, runs, start_of, capacity_of, all_healthy, run_row, cnv_rows}
use Rattle.report.proofs.Laws.{AllGood}
use Rattle.checks.specs.Facts.{SoundRow}
use Rattle.disk.proofs.Whole.{whole_next}
use Rattle.consistency.proofs.Sizes.{WellSized, bytes_whole, written_well}

-- where a file lies: these sectors
record Lies (b start sectors : ℕ) : Type 0 where
  started : 0 < start
  aligned : start % block_sectors b ≡ 0
  roomy : 0 < sectors
  whole : sectors % block_sectors b ≡ 0
  ends : start + sectors ≤ 2 ^ 40

file_sound : {b start sectors size : ℕ} (k : FileKind) (well : Bool) → IsBlock b → Lies b start sectors → (well ≡ true → WellSized b sectors size)
    → (k ≡ Conventional → size ≡ bytes_of sectors) → SoundRow b k (file_row well start (bytes_of sectors) size)
file_sound {sectors = sectors} k true block l s plain =
    let w = s refl in
    record {
      started = l.started;
      aligned = l.aligned;
      roomy = omega (arith, l.roomy);
      whole = bytes_whole block sectors l.whole;
      ends = omega (arith, l.ends);
      blocks = w.blocks;
      within = w.within;
      offline = λ e. let x : ◌≡◌ {A = ℕ} 0 1 = cc in absurd (omega arith);
      none = λ e. let x : ◌≡◌ {A = ℕ} 0 1 = cc in absurd (omega arith);
      readonly = λ e f. let x : ◌≡◌ {A = ℕ} 0 1 = cc in omega arith;
      full = λ e n. plain e;
      openable = λ e. refl;
    }
file_sound {b} {sectors = sectors} k false block l s plain =
    record {
      started = l.started;
      aligned = l.aligned;
      roomy = omega (arith, l.roomy);
      whole = bytes_whole block sectors l.whole;
      ends = omega (arith, l.ends);
      blocks = zero-mod b;
      within = omega arith;
      offline = λ e. refl;
      none = λ e. refl;
      readonly = λ e f. let x : ◌≡◌ {A = ℕ} 0 1 = cc in omega arith;
      full = λ e n. absurd (n refl);
      openable = λ e. absurd (omega arith);
    }

-- A ZONE that is good input, past zone 0
record Told (b at : ℕ) (z : Zone) (zs : List Zone) : Type 0 where
  start : z.start ≡ at
  lies : Lies b z.start z.capacity
  flat : conventional z ≡ true → z.capacity ≡ z.length
  size : says_size z ≡ true → WellSized b z.capacity (written_size z)
  next : (at + z.length) % block_sectors b ≡ 0
  rest : AllGood (block_sectors b) (at + z.length) zs

differ : Sequential ≡ Conventional → ⊥
differ e = let x : ◌≡◌ {A = ℕ} 0 1 = cc in omega arith

record_lies : {b : ℕ} (z : Zone) → IsBlock b → good_record (block_sectors b) z ≡ true → 0 < z.start → z.start % block_sectors b ≡ 0 → Lies b z.start z.capacity
record_lies {b} z block good inner on =
    let t = record_told (block_sectors b) z good in
    let some : ltb 0 z.capacity ≡ true = search (and_left, and_right, t.capacity) depth 9 in
    let whole : on_block (block_sectors b) z.capacity ≡ true = search (and_left, and_right, t.capacity) depth 9 in
    let within : leb z.capacity z.length ≡ true = search (and_left, and_right, t.capacity) depth 9 in
    record {
      started = inner;
      aligned = on;
      roomy = ltb-true 0 z.capacity some;
      whole = eqb-true _ 0 whole;
      ends = omega (arith, leb-true z.capacity z.length within, leb-true (z.start + z.length) (2 ^ 40) t.end);
    }

record_flat : (unit : ℕ) (z : Zone) → good_record unit z ≡ true → (0 < z.length) × (z.length % unit ≡ 0) × (conventional z ≡ true → z.capacity ≡ z.length)
record_flat unit z good =
    let t = record_told unit z good in
    let long : ltb 0 z.length ≡ true = and_left _ _ t.length in
    let spans : on_block unit z.length ≡ true = and_right (ltb 0 z.length) _ t.length in
    let flat : not (conventional z) || eqb z.capacity z.length ≡ true = search (and_left, and_right, t.capacity) depth 9 in
    (ltb-true 0 z.length long, eqb-true _ 0 spans, λ e. eqb-true _ _ (means_out (conventional z) _ flat e))

zone_good : {b at : ℕ} {z : Zone} {zs : List Zone} → IsBlock b → 0 < at → at % block_sectors b ≡ 0 → AllGood (block_sectors b) at (z ∷ zs) → Told b at z zs
unfolding AllGood
zone_good {b} {at} {z} {zs} block inner on (g, rest) =
    let (start, good) = zone-told (block_sectors b) at z g in
    let (long, spans, flat) = record_flat (block_sectors b) z good in
    record {
      start = start;
      lies = record_lies z block good (rw start inner) (rw start on);
      flat = flat;
      size = written_well block z good (rw start on);
      next = whole_next block at z.length on spans;
      rest = subst (λ n. AllGood (block_sectors b) (n + z.length) zs) start rest;
    }

-- ROWS, all of them sound
pub data AllSound (b : ℕ) (k : FileKind) : List Row → Type 0 where
  none : AllSound b k []
  next : {r : Row} {rs : List Row} → SoundRow b k r → r.outstanding ≡ Idle → AllSound b k rs → AllSound b k (r ∷ rs)

pub sound_nth : {b : ℕ} {k : FileKind} {rows : List Row} → AllSound b k rows → (n : ℕ) (d : Row) → n < length rows → SoundRow b k (get_or rows n d)
sound_nth none n d h = absurd (omega arith)
sound_nth (next s i all) zero d h = s
sound_nth (next {rs = rs} s i all) (suc n) d h = let k : n < length rs = omega arith in sound_nth all n d k

pub idle_nth : {b : ℕ} {k : FileKind} {rows : List Row} → AllSound b k rows → (n : ℕ) (d : Row) → n < length rows → (get_or rows n d).outstanding ≡ Idle
idle_nth none n d h = absurd (omega arith)
idle_nth (next s i all) zero d h = i
idle_nth (next {rs = rs} s i all) (suc n) d h = let k : n < length rs = omega arith in idle_nth all n d k

file_idle : (well : Bool) (start capacity size : ℕ) → (file_row well start capacity size).outstanding ≡ Idle
file_idle true start capacity size = refl
file_idle false start capacity size = refl

if_sound : {b : ℕ} {k : FileKind} {r : Row} {rs : List Row} (t : Bool) → (t ≡ true → SoundRow b k r) → r.outstanding ≡ Idle → AllSound b k rs → AllSound b k (row_if t r rs)
if_sound true s i all = next (s refl) i all
if_sound false s i all = all

-- THE SEQUENTIAL FILES
seqs_sound : {b : ℕ} → IsBlock b → (at : ℕ) (zs : List Zone) → 0 < at → at % block_sectors b ≡ 0 → AllGood (block_sectors b) at zs → AllSound b Sequential (seq_rows zs)
unfolding seq_rows
seqs_sound block at [] inner on good = none
seqs_sound block at (z ∷ zs) inner on good =
    let t = zone_good block inner on good in
    if_sound (sequential z) (λ s. file_sound Sequential (healthy z) block t.lies (λ h. t.size (both s h)) (λ e. absurd (differ e))) (file_idle (healthy z) _ _ _)
    (seqs_sound block (at + z.length) zs (omega arith) t.next t.rest)

-- THE CONVENTIONAL FILES. Each run lies where its zones lie.
abbrev RunLies : ℕ → List Zone → Type 0
RunLies b run = Lies b (start_of run) (capacity_of run)

data AllLie (b : ℕ) : List (List Zone) → Type 0 where
  none : AllLie b []
  next : {g : List Zone} {gs : List (List Zone)} → RunLies b g → AllLie b gs → AllLie b (g ∷ gs)

-- the first of them starts here
abbrev StartsAt : ℕ → List (List Zone) → Type 0
StartsAt at [] = ⊥
StartsAt at (g ∷ gs) = start_of g ≡ at

record RunsTold (b at : ℕ) (plain : Bool) (gs : List (List Zone)) : Type 0 where
  all : AllLie b gs
  first : plain ≡ true → StartsAt at gs

alone : {b at : ℕ} {z : Zone} {zs : List Zone} → Told b at z zs → RunLies b (z ∷ [])
unfolding capacity_of
alone {b} {at} {z} t = let same : z.capacity + 0 ≡ z.capacity = omega arith in subst (λ n. Lies b z.start n) (sym same) t.lies

longer : {b at : ℕ} {z : Zone} {zs : List Zone} (g : List Zone) → IsBlock b → Told b at z zs → conventional z ≡ true → start_of g ≡ at + z.length → RunLies b g → RunLies b (z ∷ g)
unfolding capacity_of
longer {z = z} g block t c e l =
    let flat = t.flat c in
    let here = t.lies in
    record {
      started = here.started;
      aligned = here.aligned;
      roomy = omega (arith, here.roomy);
      whole = whole_next block z.capacity (capacity_of g) here.whole l.whole;
      ends = omega (arith, t.start, l.ends);
    }

with_run : {b at : ℕ} {z : Zone} {zs : List Zone} {gs : List (List Zone)} (plain joins : Bool) → IsBlock b → Told b at z zs → conventional z ≡ plain
    → AllLie b gs → (joins ≡ true → StartsAt (at + z.length) gs) → RunsTold b at plain (runs_with plain joins z gs)
with_run false joins block t c all f = record { all = all; first = λ e. absurd (false≢true e) }
with_run true false block t c all f = record { all = next (alone t) all; first = λ e. t.start }
with_run true true block t c none f = absurd (f refl)
with_run true true block t c (next {g = g} l all) f = record { all = next (longer g block t c (f refl) l) all; first = λ e. t.start }

runs-told : {b : ℕ} → IsBlock b → (aggregate : Bool) (at : ℕ) (zs : List Zone) → 0 < at → at % block_sectors b ≡ 0 → AllGood (block_sectors b) at zs
    → RunsTold b at (starts_conventional zs) (runs aggregate zs)
unfolding runs
runs-told block aggregate at [] inner on good = record { all = none; first = λ e. absurd (false≢true e) }
runs-told block aggregate at (z ∷ zs) inner on good =
    let t = zone_good block inner on good in
    let rest = runs-told block aggregate (at + z.length) zs (omega arith) t.next t.rest in
    with_run (conventional z) (aggregate && starts_conventional zs) block t refl rest.all (λ e. rest.first (and_right aggregate _ e))

runs_sound : {b : ℕ} {gs : List (List Zone)} → IsBlock b → AllLie b gs → AllSound b Conventional (map run_row gs)
runs_sound block none = none
runs_sound block (next {g = g} l all) =
    next
    (file_sound Conventional (all_healthy g) block l (λ h. record { blocks = bytes_whole block (capacity_of g) l.whole; within = omega arith }) (λ e. refl))
    (file_idle (all_healthy g) _ _ _)
    (runs_sound block all)

-- "Zone 0 never": the others start past it
module _ {b : ℕ} (block : IsBlock b) where
  past : (z : Zone) (zs : List Zone) → AllGood (block_sectors b) 0 (z ∷ zs) → (0 < z.length) × (z.length % block_sectors b ≡ 0) × AllGood (block_sectors b) z.length zs
  unfolding AllGood
  past z zs (g, rest) =
      let (start, good) = zone-told (block_sectors b) 0 z g in
      let (long, spans, flat) = record_flat (block_sectors b) z good in
      let from : z.start + z.length ≡ z.length = omega arith in
      (long, spans, subst (λ n. AllGood (block_sectors b) n zs) from rest)

  pub seq_rows_sound : (zs : List Zone) → AllGood (block_sectors b) 0 zs → AllSound b Sequential (seq_rows (drop 1 zs))
  unfolding seq_rows
  seq_rows_sound [] good = none
  seq_rows_sound (z ∷ zs) good = let (long, spans, rest) = past z zs good in seqs_sound block z.length zs long spans rest

  pub cnv_rows_sound : (aggregate : Bool) (zs : List Zone) → AllGood (block_sectors b) 0 zs → AllSound b Conventional (cnv_rows aggregate (drop 1 zs))
  unfolding cnv_rows runs
  cnv_rows_sound aggregate [] good = none
  cnv_rows_sound aggregate (z ∷ zs) good =
      let (long, spans, rest) = past z zs good in runs_sound block (runs-told block aggregate z.length zs long spans rest).all
