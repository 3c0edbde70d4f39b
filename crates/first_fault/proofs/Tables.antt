-- Both tables once zones have passed: the rows that they hold, and those that a zone more stores; and the count of active files.
-- Assumes nothing.
use mathlib.Core.Path.{◌≡◌, refl, ap, ◌∙◌, sym}
use mathlib.Core.List.{List, [], ◌∷◌, ◌++◌, append-nil}
use mathlib.Core.Bool.{Bool, true, false, not, ◌&&◌, ◌||◌, and-false}
use Prim.Native.Nat.{ℕ, ◌+◌, ◌≤◌, ◌<◌}
use native.Mathlib.Nat.{add-zero}
use native.Mathlib.Omega.{arith}
use borrow.Author.Tests.{ne_eqb, lt-ltb}
use lib.ListN.{length, drop, length-append}
use lib.Dec.{eqb, ltb}
use Rattle.types.specs.Codes.{flag_code}
use Rattle.types.specs.declared.Row.{Row}
use Rattle.table.specs.Rows.{rows_lent}
use Rattle.table.proofs.Laws.{row_at-same}
use Rattle.account.specs.Account.{is_active}
use Rattle.account.specs.Counts.{count_in}
use Rattle.account.proofs.Laws.{count_next, past}
use Rattle.zones.specs.declared.Zone.{Zone}
use Rattle.zones.specs.Zone.{conventional}
use Rattle.files.specs.Files.{row_if, seq_row, seq_rows}
use Rattle.files.specs.Walk.{begun, walked, stepped, row_of_run, is_seq_file, cnv_files}
use Rattle.files.proofs.Walks.{step_seqs, seq_walk, seq_count, if_count}
use Rattle.mount.specs.Fill.{fill}
use Rattle.mount.proofs.Tables.{fill-length}
use Rattle.intake.specs.Steps.{ends_with, put_row, run_stored, active_file}
use Rattle.first_fault.proofs.Walked.{cnv_ended, ended_next, left_next, walked_number, ended_count}
use Rattle.first_fault.proofs.Stored.{put_more, part_most}

-- A ROW, asked for or not

-- that of the run before a zone: stored by the zone that ends it, or before that with its own, where runs aren't joined
run_stored_lem : (joins active plain : Bool) (cnv : List ℕ) (rows : List Row) (i : ℕ) (r : Row) → i ≡ length rows → i + flag_code active ≤ rows_lent (length cnv)
    → put_row (joins && (active && not (joins && plain))) (fill cnv (rows ++ row_if (active && (not joins || false)) r [])) i r
    ≡ fill cnv (rows ++ row_if (active && not (joins && plain)) r [])
run_stored_lem false active plain cnv rows i r e h = refl
run_stored_lem true active plain cnv rows i r e h =
    rw (and-false, append-nil) (put_more (active && not plain) cnv rows i r e (omega (arith, part_most active (not plain))))

-- one more is counted where it passes
count_put : (test : Row → Bool) (y : Bool) (t : List ℕ) (n : ℕ) (r : Row) → n + flag_code y ≤ rows_lent (length t)
    → count_in test t n + flag_code (y && test r) ≡ count_in test (put_row y t n r) (n + flag_code y)
count_put test true t n r h =
    let place : ltb n (rows_lent (length t)) ≡ true = lt-ltb n (rows_lent (length t)) (omega arith) in
    rw (place, ← count_next, past test t n r n (omega arith), row_at-same t n r (omega arith))
count_put test false t n r h = add-zero (count_in test t n) ∙ ap (count_in test t) (sym (add-zero n))

-- WHAT IS STORED of zones that have passed, of which a header counts so many

unfoldable pub cnv_taken : Bool → ℕ → List ℕ → List Zone → List ℕ
cnv_taken aggregate count cnv zs =
    fill cnv (cnv_ended aggregate begun zs ++ row_if (ends_with aggregate count (walked aggregate begun zs)) (row_of_run (walked aggregate begun zs).run) [])

unfoldable pub seq_taken : List ℕ → List Zone → List ℕ
seq_taken seq zs = fill seq (seq_rows (drop 1 zs))

module _ (aggregate : Bool) where
  -- THE CONVENTIONAL FILES

  module _ (count : ℕ) (cnv : List ℕ) (zs : List Zone) (fit : cnv_files (walked aggregate begun zs) ≤ rows_lent (length cnv)) where
    pub cnv_long_lem : length (cnv_taken aggregate count cnv zs) ≡ length cnv
    unfolding cnv_taken
    cnv_long_lem =
        let w = walked aggregate begun zs in
        let last = row_if (ends_with aggregate count w) (row_of_run w.run) [] in
        fill-length cnv (cnv_ended aggregate begun zs ++ last)
        (omega (
          arith,
          length-append (cnv_ended aggregate begun zs) last,
          if_count (ends_with aggregate count w) (row_of_run w.run) [],
          part_most w.run.active (not aggregate || eqb w.number count),
          ended_count aggregate zs,
        ))

    -- before a zone more, the run that it ends
    pub cnv_before : (z : Zone) → length zs < count
        → run_stored aggregate (walked aggregate begun zs) z (cnv_taken aggregate count cnv zs) ≡ fill cnv (cnv_ended aggregate begun (zs ++ (z ∷ [])))
    unfolding cnv_taken
    cnv_before z h =
        let w = walked aggregate begun zs in
        let more : eqb w.number count ≡ false = ne_eqb w.number count (λ q. omega (arith, walked_number aggregate zs)) in
        rw (more, ended_next)
        (run_stored_lem aggregate w.run.active (conventional z) cnv (cnv_ended aggregate begun zs) w.cnvs (row_of_run w.run) (ended_count aggregate zs) fit)

    -- after the last of them, the run that it finishes
    pub cnv_with : put_row (ends_with aggregate count (walked aggregate begun zs)) (fill cnv (cnv_ended aggregate begun zs))
        (walked aggregate begun zs).cnvs (row_of_run (walked aggregate begun zs).run)
        ≡ cnv_taken aggregate count cnv zs
    unfolding cnv_taken
    cnv_with =
        let w = walked aggregate begun zs in
        put_more (ends_with aggregate count w) cnv (cnv_ended aggregate begun zs) w.cnvs (row_of_run w.run) (ended_count aggregate zs)
        (omega (arith, part_most w.run.active (not aggregate || eqb w.number count)))

  -- THE SEQUENTIAL FILES

  pub seq_long_lem : (seq : List ℕ) (zs : List Zone) → (walked aggregate begun zs).seqs ≤ rows_lent (length seq) → length (seq_taken seq zs) ≡ length seq
  unfolding seq_taken
  seq_long_lem seq zs fit = fill-length seq (seq_rows (drop 1 zs)) (omega (arith, seq_count aggregate zs))

  module _ (seq : List ℕ) (zs : List Zone) (z : Zone)
      (fit : (walked aggregate begun zs).seqs + flag_code (is_seq_file (walked aggregate begun zs) z) ≤ rows_lent (length seq)) where
    pub seq_with : put_row (is_seq_file (walked aggregate begun zs) z) (seq_taken seq zs) (walked aggregate begun zs).seqs (seq_row z) ≡ seq_taken seq (zs ++ (z ∷ []))
    unfolding seq_taken
    seq_with =
        let w = walked aggregate begun zs in
        put_more (is_seq_file w z) seq (seq_rows (drop 1 zs)) w.seqs (seq_row z) (seq_count aggregate zs) fit
        ∙ ap (fill seq) (rw (← seq_walk aggregate zs, ← seq_walk aggregate (zs ++ (z ∷ []))) (sym (left_next aggregate begun zs z)))

    -- and counted, if it is active
    pub active_with : (explicit : Bool)
        → count_in (is_active explicit) (seq_taken seq zs) (walked aggregate begun zs).seqs + flag_code (active_file explicit (walked aggregate begun zs) z)
        ≡ count_in (is_active explicit) (seq_taken seq (zs ++ (z ∷ []))) (stepped aggregate (walked aggregate begun zs) z).seqs
    active_with explicit =
        let w = walked aggregate begun zs in
        count_put (is_active explicit) (is_seq_file w z) (seq_taken seq zs) w.seqs (seq_row z) (omega (arith, seq_long_lem seq zs (omega arith)))
        ∙ rw (seq_with, step_seqs)
