-- What a mount answered 0 leaves has the invariant.
-- Assumes nothing.
use mathlib.Core.Bool.{Bool, true, false, not, ◌&&◌, false≢true}
use mathlib.Core.List.{List, [], ◌∷◌, map}
use mathlib.Core.Path.{◌≡◌, refl, sym, ap, ◌∙◌, subst}
use Prim.Native.Nat.{ℕ, zero, suc, ◌+◌, ◌*◌, ◌/◌, ◌%◌, ◌≤◌, ◌<◌}
use native.Mathlib.Omega.{arith}
use native.Mathlib.Nat.{zero-mod}
use lib.Dec.{ltb}
use lib.ListN.{length, get_or, drop}
use borrow.Author.Tests.{ltb-true, ltb-false}
use Rattle.types.specs.declared.Row.{Row}
use Rattle.types.specs.declared.FileKind.{FileKind}
use Rattle.types.specs.declared.FileKind.TheVariants.{Conventional, Sequential}
use Rattle.types.specs.declared.Condition.{Condition}
use Rattle.types.specs.declared.Condition.TheVariants.{Healthy, ReadOnly, Offline}
use Rattle.types.specs.declared.ErrorPolicy.{ErrorPolicy}
use Rattle.types.proofs.Tests.{and_right}
use Rattle.types.proofs.Blocks.{IsBlock}
use Rattle.types.specs.Predicates.{is_conventional, is_healthy, is_read_only}
use Rattle.types.proofs.PredicateLaws.{conventional-is}
use Rattle.zones.specs.declared.Zone.{Zone}
use Rattle.zones.specs.Zone.{conventional, sequential}
use Rattle.zones.proofs.Laws.{zone-told}
use Rattle.report.proofs.Laws.{AllGood}
use Rattle.files.specs.Files.{seq_row, row_if, seq_rows, starts_conventional, runs_with, runs, joined, run_row, start_of, capacity_of, all_healthy, cnv_rows}
use Rattle.disk.specs.Disk.{DiskZone, no_zone, zone_holding}
use Rattle.consistency.specs.FileHistory.{at_mount}
use Rattle.disk.specs.Facts.{ShowsZone, ShowsZones, none, next}
use Rattle.disk.proofs.Whole.{whole_size, whole_next}
use Rattle.disk.proofs.SoundZone.{SoundZone, sound_of, says_conventional, says_sequential}
use Rattle.consistency.proofs.Shown.{shown_row, file_row_lem, seq_row_lem, fresh_size_lem}
use Rattle.consistency.proofs.Agrees.{Agrees, RowState, live, dead}
use Rattle.consistency.proofs.Bridge.{no_row}
use Rattle.consistency.proofs.Files.{Files, Inside, Covers, zone_here, zone_later}
use Rattle.consistency.proofs.Files as files

-- A FILE as it is at mount
agrees_at_mount : {b : ℕ} (p : ErrorPolicy) (z : DiskZone) → IsBlock b → SoundZone b z → z.kind ≡ Sequential → 0 < z.start → Agrees b p z (at_mount z) (shown_row z)
unfolding at_mount
agrees_at_mount {b} p z block sound kind inner = record { kind = kind; sound = sound; inner = inner; start = refl; capacity = refl; state = by z.condition refl }
  where
    unread : (h : Condition) → z.condition ≡ h → is_healthy h ≡ false → (is_read_only h ≡ false → h ≡ Offline) → RowState b p z (at_mount z) (shown_row z)
    unread h e u o = dead (record { size = rw (e, u); access = rw (e, u); condition = rw (e, u); untouched = refl; unhealthy = rw e u; mounted = λ f. e ∙ o (rw e at f) })

    by : (h : Condition) → z.condition ≡ h → RowState b p z (at_mount z) (shown_row z)
    by Healthy e = live (record {
      size = sym (fresh_size_lem z kind);
      access = rw e;
      intact = λ f. rw e;
      known = λ f. rw e;
      worse = rw e;
      last = λ q f. rw (fresh_size_lem z kind, e);
      whole = rw (fresh_size_lem z kind, e) (whole_size block z z.pointer sound.base (sound.point kind e));
      fits = rw (fresh_size_lem z kind, e) (omega (arith, sound.point kind e));
      mounted = rw e;
    })
    by ReadOnly e = unread ReadOnly e refl (λ f. cc)
    by Offline e = unread Offline e refl (λ f. refl)

-- ZONES THAT ARE GOOD INPUT, one after the other
record Good (b at : ℕ) (r : Zone) (z : DiskZone) (rs : List Zone) : Type 0 where
  start : z.start ≡ at
  sound : SoundZone b z
  rest : AllGood (b / 512) (at + z.length) rs

good_first : {b at : ℕ} {r : Zone} {z : DiskZone} {rs : List Zone} → IsBlock b → ShowsZone r z → at % (b / 512) ≡ 0 → AllGood (b / 512) at (r ∷ rs) → Good b at r z rs
unfolding AllGood
good_first {b} {at} {r} {z} {rs} block w on (g, rest) =
    let (s, good) = zone-told (b / 512) at r g in
    let start : z.start ≡ at = sym w.start ∙ s in
    let next : r.start + r.length ≡ at + z.length = omega (arith, s, w.length) in
    record { start = start; sound = sound_of block w good (rw start on); rest = subst (λ n. AllGood (b / 512) n rs) next rest }

-- THE SEQUENTIAL FILES, past zone 0
files_at : {b : ℕ} → IsBlock b → (p : ErrorPolicy) (at : ℕ) {rs : List Zone} {zs : List DiskZone} → ShowsZones rs zs → 0 < at → at % (b / 512) ≡ 0 → AllGood (b / 512) at rs
    → Files b p at zs (map at_mount zs) (seq_rows rs) (length (seq_rows rs))
unfolding seq_rows
files_at block p at none inner on l = files.none
files_at {b} block p at (next {r = r} {z = z} {rs = rs} {zs = zs} w ws) inner on l =
    let g = good_first block w on l in
    by z.kind refl (sequential r) (says_sequential w) g (files_at block p (at + z.length) ws (omega arith) (whole_next block at z.length on g.sound.spans) g.rest)
  where
    by : (k : FileKind) → z.kind ≡ k → (t : Bool) → t ≡ not (is_conventional z.kind) → Good b at r z rs → Files b p (at + z.length) zs (map at_mount zs) (seq_rows rs) (length (seq_rows rs))
        → Files b p at (z ∷ zs) (at_mount z ∷ map at_mount zs) (row_if t (seq_row r) (seq_rows rs)) (length (row_if t (seq_row r) (seq_rows rs)))
    by Conventional e true f g t = let x : true ≡ false = f ∙ ap (λ k. not (is_conventional k)) e in absurd (false≢true (sym x))
    by Conventional e false f g t = files.other g.start (ap (λ k. not (is_conventional k) && ltb 0 z.start) e) g.sound t
    by Sequential e true f g t =
        files.file g.start (subst (λ x. Agrees b p z (at_mount z) x) (sym (seq_row_lem w e)) (agrees_at_mount p z block g.sound e (rw g.start inner))) t
    by Sequential e false f g t = let x : false ≡ true = f ∙ ap (λ k. not (is_conventional k)) e in absurd (false≢true x)

-- and with zone 0 before them
nothing_first : (k : FileKind) (n : ℕ) → n ≡ 0 → not (is_conventional k) && ltb 0 n ≡ false
nothing_first Conventional n e = refl
nothing_first Sequential n e = rw e

pub files_start : {b : ℕ} → IsBlock b → (p : ErrorPolicy) {rs : List Zone} {zs : List DiskZone} → ShowsZones rs zs → AllGood (b / 512) 0 rs
    → Files b p 0 zs (map at_mount zs) (seq_rows (drop 1 rs)) (length (seq_rows (drop 1 rs)))
unfolding seq_rows
files_start block p none l = files.none
files_start {b} block p (next {r = r} {z = z} {rs = rs} w ws) l =
    let g = good_first block w (zero-mod (b / 512)) l in
    files.other g.start (nothing_first z.kind z.start g.start) g.sound
    (files_at block p (0 + z.length) ws (omega (arith, g.sound.long)) (whole_next block 0 z.length (zero-mod (b / 512)) g.sound.spans) g.rest)

-- THE CONVENTIONAL FILES. The rows of the runs, each of which covers its zones.
pub data Rows_cover (b at : ℕ) (zs : List DiskZone) : List Row → Type 0 where
  nil : Rows_cover b at zs []
  cons : {r : Row} {rs : List Row} → at ≤ r.start → Covers b zs r → Rows_cover b at zs rs → Rows_cover b at zs (r ∷ rs)

pub covers_nth : {b at : ℕ} {zs : List DiskZone} {rs : List Row} → Rows_cover b at zs rs → (n : ℕ) → n < length rs → Covers b zs (get_or rs n no_row)
covers_nth nil n h = absurd (omega arith)
covers_nth (cons l c v) zero h = c
covers_nth (cons {rs = rs} l c v) (suc n) h = let k : n < length rs = omega arith in covers_nth v n k

covers_later : {b : ℕ} (z : DiskZone) (zs : List DiskZone) (r : Row) → z.start + z.length ≤ r.start → Covers b zs r → Covers b (z ∷ zs) r
covers_later z zs r l c = record { at = λ x low high. rw (zone_later z zs x (omega arith)) (c.at x low high) }

all_later : {b : ℕ} (at : ℕ) (z : DiskZone) (zs : List DiskZone) {rs : List Row} → z.start ≡ at → Rows_cover b (at + z.length) zs rs → Rows_cover b at (z ∷ zs) rs
all_later at z zs e nil = nil
all_later at z zs e (cons {r = r} l c v) = let h : at ≤ r.start = omega arith in cons h (covers_later z zs r (omega arith) c) (all_later at z zs e v)

-- a conventional zone's own row, and its row joined to the run after it
covers_own : {b : ℕ} (z : DiskZone) (zs : List DiskZone) (r : Row) → r.start ≡ z.start → r.capacity ≡ z.capacity * 512 → z.kind ≡ Conventional → SoundZone b z → Covers b (z ∷ zs) r
covers_own z zs r s c k sound =
    let same = sound.flat k in
    record { at = λ x low high. rw (zone_here z zs x (omega arith)) (record { kind = k; sound = sound; low = omega arith; high = omega arith }) }

covers_joined : {b : ℕ} (z : DiskZone) (zs : List DiskZone) (r q : Row) → r.start ≡ z.start → r.capacity ≡ z.capacity * 512 + q.capacity → q.start ≡ z.start + z.length
    → z.kind ≡ Conventional → SoundZone b z → Covers b zs q → Covers b (z ∷ zs) r
covers_joined {b} z zs r q s c t k sound v = record { at = λ x low high. by x low high (ltb x ((z.start + z.length) * 512)) refl }
  where
    by : (x : ℕ) → r.start * 512 ≤ x → x < r.start * 512 + r.capacity → (y : Bool) → ltb x ((z.start + z.length) * 512) ≡ y → Inside b r (get_or (z ∷ zs) (zone_holding (z ∷ zs) x) no_zone)
    by x low high true e =
        let same = sound.flat k in
        rw (zone_here z zs x (ltb-true _ _ e)) (record { kind = k; sound = sound; low = omega arith; high = omega arith })
    by x low high false e =
        let same = sound.flat k in
        let past = ltb-false x ((z.start + z.length) * 512) e in
        let i = v.at x (omega arith) (omega arith) in
        rw (zone_later z zs x past) (record { kind = i.kind; sound = i.sound; low = omega (arith, i.low); high = omega (arith, i.high) })

run_start : (run : List Zone) → (run_row run).start ≡ start_of run
run_start run = ap (λ (r : Row). r.start) (file_row_lem (all_healthy run) (start_of run) (capacity_of run * 512) (capacity_of run * 512))

run_capacity : (run : List Zone) → (run_row run).capacity ≡ capacity_of run * 512
run_capacity run = ap (λ (r : Row). r.capacity) (file_row_lem (all_healthy run) (start_of run) (capacity_of run * 512) (capacity_of run * 512))

abbrev Begins : ℕ → List Row → Type 0
Begins at [] = ⊥
Begins at (q ∷ rs) = q.start ≡ at

record Runs_start (b at : ℕ) (rs : List Zone) (zs : List DiskZone) (rows : List Row) : Type 0 where
  cover : Rows_cover b at zs rows
  head : starts_conventional rs ≡ true → Begins at rows

-- a run of one
single : {b at : ℕ} {r : Zone} {z : DiskZone} {rs : List Zone} {zs : List DiskZone} {rows : List Row} → ShowsZone r z → z.kind ≡ Conventional → z.start ≡ at → SoundZone b z → Rows_cover b (at + z.length) zs rows
    → Runs_start b at (r ∷ rs) (z ∷ zs) (run_row (r ∷ []) ∷ rows)
unfolding capacity_of
single {b} {at} {r} {z} {rs} {zs} w k e sound v =
    let row : Row = run_row (r ∷ []) in
    let s : row.start ≡ z.start = run_start (r ∷ []) ∙ w.start in
    let c : row.capacity ≡ z.capacity * 512 = run_capacity (r ∷ []) ∙ omega (arith, w.capacity) in
    let low : at ≤ row.start = omega (arith, s, e) in
    record { cover = cons low (covers_own z zs row s c k sound) (all_later at z zs e v); head = λ _. s ∙ e }

-- a run that goes on in the next
longer : {b at : ℕ} {r : Zone} {z : DiskZone} {rs : List Zone} {zs : List DiskZone} → ShowsZone r z → z.kind ≡ Conventional → z.start ≡ at → SoundZone b z → (rest : List (List Zone)) → Rows_cover b (at + z.length) zs (map run_row rest)
    → Begins (at + z.length) (map run_row rest) → Runs_start b at (r ∷ rs) (z ∷ zs) (map run_row (joined r rest))
unfolding capacity_of
longer w k e sound [] v h = absurd h
longer {b} {at} {r} {z} {rs} {zs} w k e sound (run ∷ rest) (cons l q v) h =
    let row : Row = run_row (r ∷ run) in
    let s : row.start ≡ z.start = run_start (r ∷ run) ∙ w.start in
    let c : row.capacity ≡ z.capacity * 512 + (run_row run).capacity = run_capacity (r ∷ run) ∙ omega (arith, w.capacity, run_capacity run) in
    let low : at ≤ row.start = omega (arith, s, e) in
    record { cover = cons low (covers_joined z zs row (run_row run) s c (omega (arith, h, e)) k sound q) (all_later at z zs e v); head = λ _. s ∙ e }

-- the rows of the runs among zones that are good input
runs_at : {b : ℕ} → IsBlock b → (g : Bool) (at : ℕ) {rs : List Zone} {zs : List DiskZone} → ShowsZones rs zs → at % (b / 512) ≡ 0 → AllGood (b / 512) at rs
    → Runs_start b at rs zs (map run_row (runs g rs))
unfolding runs
runs_at block g at none on l = record { cover = nil; head = λ e. absurd (false≢true e) }
runs_at {b} block g at (next {r = r} {z = z} {rs = rs} {zs = zs} w ws) on l =
    let f = good_first block w on l in
    by (conventional r) refl (g && starts_conventional rs) refl f (runs_at block g (at + z.length) ws (whole_next block at z.length on f.sound.spans) f.rest)
  where
    plain : conventional r ≡ true → z.kind ≡ Conventional
    plain e = conventional-is z.kind (sym (says_conventional w) ∙ e)

    by : (s : Bool) → conventional r ≡ s → (t : Bool) → g && starts_conventional rs ≡ t → Good b at r z rs → Runs_start b (at + z.length) rs zs (map run_row (runs g rs))
        → Runs_start b at (r ∷ rs) (z ∷ zs) (map run_row (runs_with s t r (runs g rs)))
    by false e t j f n = record { cover = all_later at z zs f.start n.cover; head = λ q. absurd (false≢true (sym e ∙ q)) }
    by true e false j f n = single w (plain e) f.start f.sound n.cover
    by true e true j f n = longer w (plain e) f.start f.sound (runs g rs) n.cover (n.head (and_right g _ j))

-- and with zone 0 before them
pub covers_start : {b : ℕ} → IsBlock b → (g : Bool) {rs : List Zone} {zs : List DiskZone} → ShowsZones rs zs → AllGood (b / 512) 0 rs → Rows_cover b 0 zs (cnv_rows g (drop 1 rs))
unfolding cnv_rows runs
covers_start block g none l = nil
covers_start {b} block g (next {r = r} {z = z} {rs = rs} {zs = zs} w ws) l =
    let f = good_first block w (zero-mod (b / 512)) l in
    all_later 0 z zs f.start (runs_at block g (0 + z.length) ws (whole_next block 0 z.length (zero-mod (b / 512)) f.sound.spans) f.rest).cover
