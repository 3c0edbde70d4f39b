-- The disk of a system that has the invariant can be mounted afresh from every report that shows it, and what that mount gives.
-- Assumes nothing.
use mathlib.Core.Bool.{Bool, true, false, not, ◌&&◌, false≢true}
use mathlib.Core.List.{List, [], ◌∷◌}
use mathlib.Core.Path.{◌≡◌, refl, sym, ap, ◌∙◌}
use Prim.Native.Nat.{ℕ, zero, suc, ◌+◌, ◌/◌, ◌<◌}
use native.Mathlib.Omega.{arith}
use lib.Dec.{ltb}
use lib.ListN.{length, get_or, drop, length-map}
use borrow.Author.Tests.{eq-eqb, lt-ltb}
use Rattle.types.specs.declared.Row.{Row}
use Rattle.types.specs.declared.FileKind.{FileKind}
use Rattle.types.specs.declared.FileKind.TheVariants.{Conventional, Sequential}
use Rattle.types.specs.declared.ErrorPolicy.{ErrorPolicy}
use Rattle.types.proofs.Tests.{both}
use Rattle.types.specs.Predicates.{is_conventional}
use Rattle.zones.specs.declared.Zone.{Zone}
use Rattle.zones.specs.Zone.{conventional, sequential, good_zone}
use Rattle.report.proofs.Laws.{AllGood}
use Rattle.files.specs.Files.{seq_rows, starts_conventional, joined, runs_with, runs, run_row, cnv_rows}
use Rattle.disk.specs.Disk.{DiskZone, no_zone}
use Rattle.consistency.specs.FileHistory.{FileHistory}
use Rattle.disk.specs.Facts.{ShowsZone, ShowsZones, none, next}
use Rattle.consistency.specs.System.{no_history, holds_seq_file, file_zone}
use Rattle.disk.proofs.SoundZone.{SoundZone, record_good, says_conventional, says_sequential}
use Rattle.consistency.proofs.Shown.{shown_row, seq_row_lem}
use Rattle.consistency.proofs.Agrees.{Agrees}
use Rattle.consistency.proofs.Bridge.{no_row}
use Rattle.consistency.proofs.Files.{Files, kinds, is_file}
use Rattle.consistency.proofs.Files as files

-- THE ZONES are good input
good_next : {b at : ℕ} {r : Zone} {z : DiskZone} (rs : List Zone) → ShowsZone r z → z.start ≡ at → SoundZone b z → AllGood (b / 512) (at + z.length) rs → AllGood (b / 512) at (r ∷ rs)
unfolding AllGood good_zone
good_next {b} {at} {r} {z} rs w e s l =
    let n : r.start + r.length ≡ at + z.length = omega (arith, w.start, w.length, e) in
    (both (eq-eqb r.start at (w.start ∙ e)) (record_good w s), rw n l)

pub all_good : {b : ℕ} {p : ErrorPolicy} {at : ℕ} {zs : List DiskZone} {ss : List FileHistory} {rows : List Row} {k : ℕ} {rs : List Zone} → Files b p at zs ss rows k → ShowsZones rs zs → AllGood (b / 512) at rs
unfolding AllGood
all_good files.none none = tt
all_good (files.other e f s t) (next {rs = rs} w ws) = good_next rs w e s (all_good t ws)
all_good (files.file e a t) (next {rs = rs} w ws) = good_next rs w e a.sound (all_good t ws)

-- a zone past zone 0 that is no file is conventional
plain-zone : (k : FileKind) (n : ℕ) → 0 < n → not (is_conventional k) && ltb 0 n ≡ false → not (is_conventional k) ≡ false
plain-zone Conventional n h f = refl
plain-zone Sequential n h f = absurd (false≢true (sym f ∙ lt-ltb 0 n h))

not-shown : {at : ℕ} {r : Zone} {z : DiskZone} → ShowsZone r z → 0 < at → z.start ≡ at → holds_seq_file z ≡ false → sequential r ≡ false
not-shown {at} {r} {z} w i e f = says_sequential w ∙ plain-zone z.kind z.start (omega (arith, i, e)) f

is-shown : {b : ℕ} {p : ErrorPolicy} {r : Zone} {z : DiskZone} {s : FileHistory} {x : Row} → ShowsZone r z → Agrees b p z s x → sequential r ≡ true
is-shown w a = says_sequential w ∙ ap (λ k. not (is_conventional k)) a.kind

-- THE NUMBER of its seq files
count_at : {b : ℕ} {p : ErrorPolicy} {at : ℕ} {zs : List DiskZone} {ss : List FileHistory} {rows : List Row} {k : ℕ} {rs : List Zone} → Files b p at zs ss rows k → ShowsZones rs zs → 0 < at → length (seq_rows rs) ≡ k
unfolding seq_rows
count_at files.none none i = refl
count_at (files.other e f s t) (next {r = r} {rs = rs} w ws) i = rw (not-shown w i e f) (count_at t ws (omega arith))
count_at (files.file e a t) (next w ws) i = rw (is-shown w a) (ap suc (count_at t ws (omega arith)))

pub seq_count : {b : ℕ} {p : ErrorPolicy} {zs : List DiskZone} {ss : List FileHistory} {rows : List Row} {k : ℕ} {rs : List Zone} → Files b p 0 zs ss rows k → ShowsZones rs zs → length (seq_rows (drop 1 rs)) ≡ k
unfolding seq_rows
seq_count files.none none = refl
seq_count (files.other e f s t) (next w ws) = count_at t ws (omega (arith, s.long))
seq_count (files.file e a t) (next w ws) = absurd (omega (arith, e, a.inner))

-- ITS SEQ FILES: what the n-th row agrees with, and what a mount makes of it.
pub record Shown (b : ℕ) (p : ErrorPolicy) (zs : List DiskZone) (ss : List FileHistory) (rows : List Row) (n : ℕ) (fresh : Row) : Type 0 where
  pub agrees : Agrees b p (get_or zs (file_zone zs n) no_zone) (get_or ss (file_zone zs n) no_history) (get_or rows n no_row)
  pub row : fresh ≡ shown_row (get_or zs (file_zone zs n) no_zone)

file_shown_at : {b : ℕ} {p : ErrorPolicy} {at : ℕ} {zs : List DiskZone} {ss : List FileHistory} {rows : List Row} {k : ℕ} {rs : List Zone} → Files b p at zs ss rows k → ShowsZones rs zs → 0 < at → (n : ℕ) → n < k
    → Shown b p zs ss rows n (get_or (seq_rows rs) n no_row)
unfolding file_zone seq_rows
file_shown_at files.none none i n h = absurd (omega arith)
file_shown_at (files.other e f s t) (next w ws) i zero h =
    let o = file_shown_at t ws (omega arith) zero h in record { agrees = rw f o.agrees; row = rw (not-shown w i e f, f) o.row }
file_shown_at (files.other e f s t) (next w ws) i (suc n) h =
    let o = file_shown_at t ws (omega arith) (suc n) h in record { agrees = rw f o.agrees; row = rw (not-shown w i e f, f) o.row }
file_shown_at (files.file e a t) (next w ws) i zero h =
    let f = is_file a in record { agrees = rw f a; row = rw (is-shown w a, f) (seq_row_lem w a.kind) }
file_shown_at (files.file {k = k} e a t) (next w ws) i (suc n) h =
    let l : n < k = omega arith in
    let f = is_file a in
    let o = file_shown_at t ws (omega arith) n l in
    record { agrees = rw f o.agrees; row = rw (is-shown w a, f) o.row }

pub file_shown : {b : ℕ} {p : ErrorPolicy} {zs : List DiskZone} {ss : List FileHistory} {rows : List Row} {k : ℕ} {rs : List Zone} → Files b p 0 zs ss rows k → ShowsZones rs zs → (n : ℕ) → n < k → Shown b p zs ss rows n (get_or (seq_rows (drop 1 rs)) n no_row)
unfolding file_zone
file_shown files.none none n h = absurd (omega arith)
file_shown (files.other e f s t) (next w ws) zero h =
    let o = file_shown_at t ws (omega (arith, s.long)) zero h in record { agrees = rw f o.agrees; row = rw f o.row }
file_shown (files.other e f s t) (next w ws) (suc n) h =
    let o = file_shown_at t ws (omega (arith, s.long)) (suc n) h in record { agrees = rw f o.agrees; row = rw f o.row }
file_shown (files.file e a t) (next w ws) n h = absurd (omega (arith, e, a.inner))

-- THE NUMBER OF CNV FILES: that of any zones of the same kinds.
data Alike : List Zone → List Zone → Type 0 where
  end : Alike [] []
  more : {r q : Zone} {rs qs : List Zone} → conventional r ≡ conventional q → Alike rs qs → Alike (r ∷ rs) (q ∷ qs)

alike : {rs qs : List Zone} {zs ys : List DiskZone} → ShowsZones rs zs → ShowsZones qs ys → kinds zs ≡ kinds ys → Alike rs qs
alike none none e = end
alike none (next w ws) e = let x : ◌≡◌ {A = ℕ} 0 1 = cc in absurd (omega arith)
alike (next w ws) none e = let x : ◌≡◌ {A = ℕ} 0 1 = cc in absurd (omega arith)
alike (next {r = r} {z = z} {zs = zs} w ws) (next {r = q} {z = y} {zs = ys} v vs) e =
    let k : z.kind ≡ y.kind = cc in
    let l : kinds zs ≡ kinds ys = cc in
    let c : conventional r ≡ conventional q = says_conventional w ∙ ap is_conventional k ∙ sym (says_conventional v) in
    more c (alike ws vs l)

length-joined : (r q : Zone) (rs qs : List (List Zone)) → length rs ≡ length qs → length (joined r rs) ≡ length (joined q qs)
length-joined r q [] [] e = refl
length-joined r q [] (y ∷ qs) e = absurd (omega arith)
length-joined r q (x ∷ rs) [] e = absurd (omega arith)
length-joined r q (x ∷ rs) (y ∷ qs) e = e

length_with : (s t : Bool) (r q : Zone) (rs qs : List (List Zone)) → length rs ≡ length qs → length (runs_with s t r rs) ≡ length (runs_with s t q qs)
length_with false t r q rs qs e = e
length_with true false r q rs qs e = ap suc e
length_with true true r q rs qs e = length-joined r q rs qs e

starts_alike : {rs qs : List Zone} → Alike rs qs → starts_conventional rs ≡ starts_conventional qs
starts_alike end = refl
starts_alike (more e a) = e

length_runs : (g : Bool) {rs qs : List Zone} → Alike rs qs → length (runs g rs) ≡ length (runs g qs)
unfolding runs
length_runs g end = refl
length_runs g (more {r = r} {q = q} {rs = rs} {qs = qs} e a) =
    ap (λ s. length (runs_with s (g && starts_conventional rs) r (runs g rs))) e
    ∙ ap (λ t. length (runs_with (conventional q) (g && t) r (runs g rs))) (starts_alike a)
    ∙ length_with (conventional q) (g && starts_conventional qs) r q (runs g rs) (runs g qs) (length_runs g a)

drop_alike : {rs qs : List Zone} → Alike rs qs → Alike (drop 1 rs) (drop 1 qs)
drop_alike end = end
drop_alike (more e a) = a

pub cnv_count_lem : (g : Bool) {rs qs : List Zone} {zs ys : List DiskZone} → ShowsZones rs zs → ShowsZones qs ys → kinds zs ≡ kinds ys → length (cnv_rows g (drop 1 rs)) ≡ length (cnv_rows g (drop 1 qs))
unfolding cnv_rows
cnv_count_lem g {rs} {qs} ws vs e = length-map (runs g (drop 1 rs)) run_row ∙ length_runs g (drop_alike (alike ws vs e)) ∙ sym (length-map (runs g (drop 1 qs)) run_row)
