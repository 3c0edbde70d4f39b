-- The pass that fills the tables: it has come to a walk, with the rows stored that are finished, and the others left.
-- Assumes nothing.
use mathlib.Core.Path.{◌≡◌, refl, ap, ◌∙◌, sym, subst}
use mathlib.Core.List.{List, []}
use mathlib.Core.Bool.{Bool, true, false, cond}
use Prim.Native.Nat.{ℕ, ◌+◌, ◌≤◌, ◌<◌}
use native.Mathlib.Nat.{add-zero}
use native.Mathlib.Omega.{arith}
use lib.ListN.{length, drop}
use Rattle.types.specs.Blocks.{most_zones}
use Rattle.types.specs.Codes.{flag_code}
use Rattle.types.specs.declared.Row.{Row}
use Rattle.table.specs.Rows.{rows_lent, set_row}
use Rattle.table.proofs.Laws.{set_row-length}
use Rattle.zones.specs.declared.Zone.{Zone}
use Rattle.zones.specs.Facts.{Bounded, AllBounded}
use Rattle.zones.proofs.Laws.{bounded_next}
use Rattle.files.specs.declared.Walk.{Walk}
use Rattle.files.specs.Files.{row_if, seq_row, seq_rows, cnv_rows}
use Rattle.files.specs.Walk.{begun, run_ends, row_of_run, is_seq_file, stepped, cnv_left, seq_left}
use Rattle.files.specs.Facts.{BoundedWalk}
use Rattle.files.proofs.Walks.{step_number, step_expected, step_cnvs, step_seqs, cnv_walk, seq_walk, if_count, bounded_begun, bounded_step}
use Rattle.report.specs.Report.{zone_count, report_zone, zones_of}
use Rattle.report.proofs.Laws.{zones_next, zones_done}
use Rattle.mount.specs.Fill.{fill}
use Rattle.mount.specs.Mount.{file_zones}
use Rattle.mount.specs.Facts.{Fits}
use Rattle.mount.proofs.Tables.{fill_from, fill_from_lem, fill_next}

-- A TABLE, t₀ at first, that is filled with `all` up to number i: these rows are left

pub record Filling (t₀ : List ℕ) (all : List Row) (t : List ℕ) (i : ℕ) (left : List Row) : Type 0 where
  pub room : i + length left ≤ rows_lent (length t)
  pub long : length t ≡ length t₀
  pub same : fill_from t i left ≡ fill t₀ all

pub filling_begun : {t : List ℕ} {all left : List Row} → left ≡ all → length all ≤ rows_lent (length t) → Filling t all t 0 left
filling_begun {t} {all} e h =
    subst (Filling t all t 0) (sym e) (record { room = omega arith; long = refl; same = fill_from_lem t all h })

pub filling_done : {t₀ t : List ℕ} {all : List Row} {i : ℕ} → Filling t₀ all t i [] → t ≡ fill t₀ all
unfolding fill_from
filling_done f = f.same

module _ {t₀ t : List ℕ} {all : List Row} {i : ℕ} (y : Bool) (r : Row) (rest : List Row) (f : Filling t₀ all t i (row_if y r rest)) where
  -- there is room for the next row, if there is one
  pub filling_room : i + flag_code y ≤ rows_lent (length t)
  filling_room = omega (arith, if_count y r rest)

  if_fill : fill_from t i (row_if y r rest) ≡ fill_from (cond y (set_row t i r) t) (i + flag_code y) rest
  if_fill = by y
    where
      by : (y : Bool) → fill_from t i (row_if y r rest) ≡ fill_from (cond y (set_row t i r) t) (i + flag_code y) rest
      by true = fill_next t i r rest
      by false = rw (add-zero i)

  if_long : length (cond y (set_row t i r) t) ≡ length t
  if_long = by y
    where
      by : (y : Bool) → length (cond y (set_row t i r) t) ≡ length t
      by true = set_row-length t i r
      by false = refl

  -- and it is stored
  pub filling_put : {t' : List ℕ} {i' : ℕ} → t' ≡ cond y (set_row t i r) t → i' ≡ i + flag_code y → Filling t₀ all t' i' rest
  filling_put e n =
      let long = ap length e ∙ if_long in
      record {
        room = omega (arith, if_count y r rest);
        long = long ∙ f.long;
        same = rw (e, n) (sym if_fill ∙ f.same);
      }

-- THE PASS

pub record Writing (aggregate : Bool) (b cnv₀ seq₀ : List ℕ) (w : Walk) (cnv seq : List ℕ) : Type 0 where
  pub inside : w.number ≤ zone_count b
  pub bounded : BoundedWalk w
  pub zones : AllBounded w.expected (drop w.number (zones_of b))
  pub cnvs : Filling cnv₀ (cnv_rows aggregate (file_zones b)) cnv w.cnvs (cnv_left aggregate w (drop w.number (zones_of b)))
  pub seqs : Filling seq₀ (seq_rows (file_zones b)) seq w.seqs (seq_left aggregate w (drop w.number (zones_of b)))

module _ (aggregate : Bool) (b cnv₀ seq₀ : List ℕ) where
  pub writing_begun : (w : Walk) → w ≡ begun → Fits aggregate b (rows_lent (length cnv₀)) (rows_lent (length seq₀)) → Writing aggregate b cnv₀ seq₀ w cnv₀ seq₀
  unfolding file_zones
  writing_begun w e f =
      subst (λ (w : Walk). Writing aggregate b cnv₀ seq₀ w cnv₀ seq₀) (sym e)
      (record {
        inside = omega arith;
        bounded = bounded_begun;
        zones = f.bounded;
        cnvs = filling_begun (cnv_walk aggregate (zones_of b)) f.cnvs;
        seqs = filling_begun (seq_walk aggregate (zones_of b)) f.seqs;
      })

  module _ (w : Walk) (cnv seq : List ℕ) (so : Writing aggregate b cnv₀ seq₀ w cnv seq) where
    module _ (z : Zone) (read : z ≡ report_zone b w.number) (here : w.number < zone_count b) where
      abbrev next : Walk
      next = stepped aggregate w z

      abbrev after : List Zone
      after = drop (w.number + 1) (zones_of b)

      bounded_here : (z.start ≡ w.expected) × Bounded z × AllBounded (z.start + z.length) after
      bounded_here = bounded_next _ _ _ _ (zones_next b w.number z read here) so.zones

      cnv_here : Filling cnv₀ (cnv_rows aggregate (file_zones b)) cnv w.cnvs (row_if (run_ends aggregate w.run z) (row_of_run w.run) (cnv_left aggregate next after))
      unfolding cnv_left
      cnv_here = subst (Filling cnv₀ _ cnv w.cnvs) (ap (cnv_left aggregate w) (zones_next b w.number z read here)) so.cnvs

      seq_here : Filling seq₀ (seq_rows (file_zones b)) seq w.seqs (row_if (is_seq_file w z) (seq_row z) (seq_left aggregate next after))
      unfolding seq_left
      seq_here = subst (Filling seq₀ _ seq w.seqs) (ap (seq_left aggregate w) (zones_next b w.number z read here)) so.seqs

      -- what it takes to store the rows that z finishes
      pub writing_zone : Bounded z
      writing_zone = bounded_here.1

      pub writing_cnv : w.cnvs + flag_code (run_ends aggregate w.run z) ≤ rows_lent (length cnv)
      writing_cnv = filling_room (run_ends aggregate w.run z) (row_of_run w.run) (cnv_left aggregate next after) cnv_here

      pub writing_seq : w.seqs + flag_code (is_seq_file w z) ≤ rows_lent (length seq)
      writing_seq = filling_room (is_seq_file w z) (seq_row z) (seq_left aggregate next after) seq_here

      -- and they are stored
      pub writing_step : {w' : Walk} {cnv' seq' : List ℕ} → w' ≡ next → zone_count b ≤ most_zones
          → cnv' ≡ cond (run_ends aggregate w.run z) (set_row cnv w.cnvs (row_of_run w.run)) cnv
          → seq' ≡ cond (is_seq_file w z) (set_row seq w.seqs (seq_row z)) seq → Writing aggregate b cnv₀ seq₀ w' cnv' seq'
      writing_step {w'} {cnv'} {seq'} e few p q =
          let n = step_number aggregate w z in
          let on : Writing aggregate b cnv₀ seq₀ next cnv' seq' =
          record {
            inside = omega arith;
            bounded = bounded_step aggregate w z so.bounded bounded_here.0 writing_zone (omega arith);
            zones = rw (n, step_expected aggregate w z) bounded_here.2;
            cnvs = subst (λ (k : ℕ). Filling cnv₀ (cnv_rows aggregate (file_zones b)) cnv' next.cnvs (cnv_left aggregate next (drop k (zones_of b)))) (sym n)
                (filling_put (run_ends aggregate w.run z) (row_of_run w.run) (cnv_left aggregate next after) cnv_here p (step_cnvs aggregate w z));
            seqs = subst (λ (k : ℕ). Filling seq₀ (seq_rows (file_zones b)) seq' next.seqs (seq_left aggregate next (drop k (zones_of b)))) (sym n)
                (filling_put (is_seq_file w z) (seq_row z) (seq_left aggregate next after) seq_here q (step_seqs aggregate w z));
          } in
          subst (λ (w : Walk). Writing aggregate b cnv₀ seq₀ w cnv' seq') (sym e) on

    -- no zone is left, but the run may be
    module _ (done : zone_count b ≤ w.number) where
      cnv_last : Filling cnv₀ (cnv_rows aggregate (file_zones b)) cnv w.cnvs (row_if w.run.active (row_of_run w.run) [])
      unfolding cnv_left
      cnv_last = subst (Filling cnv₀ _ cnv w.cnvs) (ap (cnv_left aggregate w) (zones_done b w.number done)) so.cnvs

      pub writing_last : w.cnvs + flag_code w.run.active ≤ rows_lent (length cnv)
      writing_last = filling_room w.run.active (row_of_run w.run) [] cnv_last

      pub written_cnv : {cnv' : List ℕ} → cnv' ≡ cond w.run.active (set_row cnv w.cnvs (row_of_run w.run)) cnv → cnv' ≡ fill cnv₀ (cnv_rows aggregate (file_zones b))
      written_cnv p = filling_done (filling_put w.run.active (row_of_run w.run) [] cnv_last p refl)

      pub written_seq : seq ≡ fill seq₀ (seq_rows (file_zones b))
      unfolding seq_left
      written_seq = filling_done (subst (Filling seq₀ _ seq w.seqs) (ap (seq_left aggregate w) (zones_done b w.number done)) so.seqs)
