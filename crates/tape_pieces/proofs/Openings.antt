-- The first four records of a tape: what follows them doesn't matter.
-- Assumes nothing.
use mathlib.Core.Path.{◌≡◌, refl, sym, ap, ◌∙◌}
use mathlib.Core.List.{List, ◌++◌}
use mathlib.Core.Bool.{Bool, true, false, cond, ◌&&◌}
use Prim.Native.Nat.{ℕ, ◌+◌, ◌*◌, ◌≤◌, ◌<◌}
use native.Mathlib.Omega.{arith}
use lib.Dec.{leb}
use lib.ListN.{length, get_or, take, drop, length-append, length-drop, get_or-append}
use lib.Seq.{drop-append-le, take-append-le}
use borrow.Author.Tests.{leb-true}
use Rattle.types.proofs.Tests.{and_right, leb-same}
use Rattle.types.specs.Mounts.{empty_mount}
use Rattle.wire.specs.Le.{le}
use Rattle.wire.proofs.Laws.{le-drop}
use Rattle.mount.specs.Mount.{Mounting, mount_outcome}
use Rattle.tape_records.specs.declared.Letters.{Letters}
use Rattle.tape_records.specs.Records.{mark_bytes, letters_at, same_letters, stands, super_place, report_place, tape_zones, report_start, count_of, report_length, mount_place, mount_bytes, options_start, options_length, limits_place, limits_bytes, run_place, block_letters, super_letters, report_letters, mount_letters, starts_well, mount_stands, opens, block_of, super_bytes, report_bytes, option_bytes, open_limit_of, active_limit_of}
use Rattle.tape_records.specs.Facts.{longest_report}
use Rattle.superblock.specs.SuperBlock.{super_length}
use Rattle.zones.specs.Zone.{zone_bytes}
use Rattle.report.specs.Report.{header_bytes}
use Rattle.tape_turns.specs.Turns.{mounting, mount_turn, broken_turn, open_turn}
use Rattle.tape_pieces.specs.Pieces.{longest_opening}
use Rattle.tape.proofs.Windows.{number_alike}
use Rattle.tape.proofs.Blocks.{Inside}

report_longest : (n : ℕ) → report_length n ≤ longest_report
report_longest n = by (leb n tape_zones) refl
  where
    by : (t : Bool) → leb n tape_zones ≡ t → cond t (header_bytes + zone_bytes * n) header_bytes ≤ longest_report
    by true e = omega (arith, leb-true n tape_zones e)
    by false e = omega arith

module _ (b f : List ℕ) (h : longest_opening ≤ length b) (small : (i : ℕ) → get_or b i 0 < 256) where
  byte : (i : ℕ) → i < longest_opening → get_or (b ++ f) i 0 ≡ get_or b i 0
  byte i p = get_or-append b f 0 i (omega arith)

  number : (n at : ℕ) → at + n ≤ longest_opening → le n (b ++ f) at ≡ le n b at
  number n at p = number_alike n (b ++ f) b at at (λ i k. byte (at + i) (omega arith))

  part : (n at : ℕ) → at + n ≤ longest_opening → take n (drop at (b ++ f)) ≡ take n (drop at b)
  part n at p = ap (take n) (drop-append-le at b f (omega arith)) ∙ take-append-le n (drop at b) f (omega (arith, length-drop at b))

  long : (n : ℕ) → n ≤ longest_opening → leb n (length (b ++ f)) ≡ leb n (length b)
  long n p = leb-same n (length (b ++ f)) n (length b) (λ _. omega arith) (λ _. omega (arith, length-append b f))

  count : count_of (b ++ f) ≡ count_of b
  count = le-drop 4 report_start (b ++ f) 8 ∙ number 4 (report_start + 8) (omega arith) ∙ sym (le-drop 4 report_start b 8)

  place : mount_place (b ++ f) ≡ mount_place b
  place = ap (λ n. report_start + report_length n) count

  place_limit : mount_place b ≤ report_start + longest_report
  place_limit = omega (arith, report_longest (count_of b))

  options_length_lem : options_length (b ++ f) ≡ options_length b
  options_length_lem = ap (λ n. get_or (b ++ f) (n + mark_bytes) 0) place ∙ byte (mount_place b + mark_bytes) (omega (arith, place_limit))

  run_limit : run_place b ≤ longest_opening
  run_limit = omega (arith, place_limit, small (mount_place b + mark_bytes))

  limits : limits_place (b ++ f) ≡ limits_place b
  limits = ap (λ n. n + mount_bytes + options_length (b ++ f)) place ∙ ap (λ n. mount_place b + mount_bytes + n) options_length_lem

  run : run_place (b ++ f) ≡ run_place b
  run = ap (λ n. n + limits_bytes) limits

  letters_same : (at : ℕ) → at + mark_bytes ≤ longest_opening → letters_at (b ++ f) at ≡ letters_at b at
  letters_same at p = rw (byte at (omega arith), byte (at + 1) (omega arith))

  stands_same : (l : Letters) (n at : ℕ) → mark_bytes ≤ n → at + n ≤ longest_opening → stands l n (b ++ f) at ≡ stands l n b at
  stands_same l n at q p = rw (long (at + n) p) (ap (λ (x : Letters). leb (at + n) (length b) && same_letters x l) (letters_same at (omega arith)))

  starts_same : starts_well (b ++ f) ≡ starts_well b
  starts_same =
      ap (λ (t : Bool). t && stands super_letters (mark_bytes + super_length) (b ++ f) super_place && stands report_letters (mark_bytes + header_bytes) (b ++ f) report_place)
      (stands_same block_letters super_place 0 (omega arith) (omega arith))
      ∙ ap (λ (t : Bool). stands block_letters super_place b 0 && t && stands report_letters (mark_bytes + header_bytes) (b ++ f) report_place)
      (stands_same super_letters (mark_bytes + super_length) super_place (omega arith) (omega arith))
      ∙ ap (λ (t : Bool). stands block_letters super_place b 0 && stands super_letters (mark_bytes + super_length) b super_place && t)
      (stands_same report_letters (mark_bytes + header_bytes) report_place (omega arith) (omega arith))

  mount_same : mount_stands (b ++ f) ≡ mount_stands b
  mount_same =
      ap (λ (n : ℕ). stands mount_letters mount_bytes (b ++ f) n && leb (run_place (b ++ f)) (length (b ++ f))) place
      ∙ ap (λ (t : Bool). t && leb (run_place (b ++ f)) (length (b ++ f))) (stands_same mount_letters mount_bytes (mount_place b) (omega arith) (omega (arith, place_limit)))
      ∙ ap (λ (n : ℕ). stands mount_letters mount_bytes b (mount_place b) && leb n (length (b ++ f))) run
      ∙ ap (λ (t : Bool). stands mount_letters mount_bytes b (mount_place b) && t) (long (run_place b) run_limit)

  opens-same : opens (b ++ f) ≡ opens b
  unfolding opens
  opens-same = ap (λ (t : Bool). t && mount_stands (b ++ f)) starts_same ∙ ap (λ (t : Bool). starts_well b && t) mount_same

  mounting-same : (cnv seq : List ℕ) → mounting (b ++ f) cnv seq ≡ mounting b cnv seq
  mounting-same cnv seq =
      ap (λ (x : ℕ). mount_outcome x (super_bytes (b ++ f)) (option_bytes (b ++ f)) (report_bytes (b ++ f)) (open_limit_of (b ++ f)) (active_limit_of (b ++ f)) cnv seq) (number 2 mark_bytes (omega arith))
      ∙ ap (λ (x : List ℕ). mount_outcome (block_of b) x (option_bytes (b ++ f)) (report_bytes (b ++ f)) (open_limit_of (b ++ f)) (active_limit_of (b ++ f)) cnv seq) (part super_length (super_place + mark_bytes) (omega arith))
      ∙ ap (λ (x : List ℕ). mount_outcome (block_of b) (super_bytes b) x (report_bytes (b ++ f)) (open_limit_of (b ++ f)) (active_limit_of (b ++ f)) cnv seq) options_same
      ∙ ap (λ (x : List ℕ). mount_outcome (block_of b) (super_bytes b) (option_bytes b) x (open_limit_of (b ++ f)) (active_limit_of (b ++ f)) cnv seq) report-same
      ∙ ap (λ (x : ℕ). mount_outcome (block_of b) (super_bytes b) (option_bytes b) (report_bytes b) x (active_limit_of (b ++ f)) cnv seq) open_same
      ∙ ap (λ (x : ℕ). mount_outcome (block_of b) (super_bytes b) (option_bytes b) (report_bytes b) (open_limit_of b) x cnv seq) active_same
    where
      options_same : option_bytes (b ++ f) ≡ option_bytes b
      options_same =
          ap (λ (n : ℕ). take n (drop (options_start (b ++ f)) (b ++ f))) options_length_lem
          ∙ ap (λ (n : ℕ). take (options_length b) (drop (n + mount_bytes) (b ++ f))) place
          ∙ part (options_length b) (options_start b) (omega (arith, run_limit))

      report-same : report_bytes (b ++ f) ≡ report_bytes b
      report-same =
          ap (λ (n : ℕ). take (report_length n) (drop report_start (b ++ f))) count
          ∙ part (report_length (count_of b)) report_start (omega (arith, place_limit))

      open_same : open_limit_of (b ++ f) ≡ open_limit_of b
      open_same = ap (λ (n : ℕ). le 4 (b ++ f) n) limits ∙ number 4 (limits_place b) (omega (arith, run_limit))

      active_same : active_limit_of (b ++ f) ≡ active_limit_of b
      active_same = ap (λ (n : ℕ). le 4 (b ++ f) (n + 4)) limits ∙ number 4 (limits_place b + 4) (omega (arith, run_limit))

  -- the first four records are the same, whatever follows
  pub opening_follows : (cnv seq : List ℕ) → open_turn (b ++ f) cnv seq ≡ open_turn b cnv seq
  unfolding open_turn
  opening_follows cnv seq =
      let broken = broken_turn 0 (record { mount = empty_mount; cnv = cnv; seq = seq }) in
      ap (λ (t : Bool). cond t (mount_turn (run_place (b ++ f)) (mounting (b ++ f) cnv seq)) broken) opens-same
      ∙ ap (λ (n : ℕ). cond (opens b) (mount_turn n (mounting (b ++ f) cnv seq)) broken) run
      ∙ ap (λ (o : Mounting). cond (opens b) (mount_turn (run_place b) o) broken) (mounting-same cnv seq)

-- and the next record stands at the end of the bytes or before it
pub opening_inside : (b cnv seq : List ℕ) → Inside b (open_turn b cnv seq).rest
unfolding open_turn opens
opening_inside b cnv seq = by (opens b) refl
  where
    by : (t : Bool) → opens b ≡ t → Inside b (cond t (mount_turn (run_place b) (mounting b cnv seq)) (broken_turn 0 (record { mount = empty_mount; cnv = cnv; seq = seq }))).rest
    by true e h = leb-true (run_place b) (length b) (and_right (stands mount_letters mount_bytes b (mount_place b)) _ (and_right (starts_well b) _ e))
    by false e h = omega arith
