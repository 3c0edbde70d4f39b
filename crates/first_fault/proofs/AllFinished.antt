-- Where nothing is wrong with a report, all of its files are finished.
-- Assumes nothing.
use Prim.Native.Nat.{ℕ}
use mathlib.Core.Path.{◌≡◌, refl, ap, ◌∙◌}
use mathlib.Core.Bool.{Bool, true, false, cond, not, ◌&&◌}
use mathlib.Core.List.{List, []}
use borrow.Author.Tests.{eq-eqb}
use lib.Dec.{leb, eqb}
use lib.ListN.{length, drop}
use Rattle.types.specs.declared.Row.{Row}
use Rattle.types.proofs.Tests.{and_left, and_right}
use Rattle.zones.specs.declared.Zone.{Zone}
use Rattle.files.specs.Files.{cnv_rows, seq_rows}
use Rattle.report.specs.Report.{header_bytes, zone_count, good_fields, good_header, zones_of}
use Rattle.report.proofs.Laws.{zones_length, framed}
use Rattle.mount.specs.Mount.{file_zones}
use Rattle.first_fault.specs.FirstFault.{report_bytes, whole_zones, passed_from, passed_zones, last_conventional, ended_by, all_but_last, finished_runs, finished_cnv, finished_seq}
use Rattle.first_fault.proofs.Faultless.{Whole, whole_all, zones_passed}

last_ends : (t : Bool) (x y : List Row) → t ≡ true → (s u : Bool) → cond (s && not t && u) x y ≡ y
last_ends t x y e true u = rw e
last_ends t x y e false u = refl

module _ (unit : ℕ) (aggregate : Bool) (cnv_room seq_room : ℕ) where
  -- the count's last zone is among those that passed
  all_finished : (count : ℕ) (passed all : List Zone) → length passed ≡ count
      → finished_runs unit aggregate cnv_room seq_room count passed all ≡ cnv_rows aggregate (drop 1 passed)
  unfolding finished_runs
  all_finished count passed all e =
      last_ends (eqb (length passed) count) (all_but_last unit aggregate cnv_room seq_room (cnv_rows aggregate (drop 1 passed))) (cnv_rows aggregate (drop 1 passed))
      (eq-eqb (length passed) count e) (aggregate && last_conventional unit aggregate cnv_room seq_room (drop 1 passed))
      (not (ended_by unit aggregate cnv_room seq_room passed (drop (length passed) all)))

  module _ (b : List ℕ) (w : Whole unit aggregate cnv_room seq_room b) where
    all_passed_lem : passed_zones unit aggregate cnv_room seq_room b ≡ zones_of b
    unfolding passed_zones good_header
    all_passed_lem =
        let there : leb header_bytes (length b) ≡ true = and_left (leb header_bytes (length b)) _ w.header in
        let good : good_fields b ≡ true = and_left (good_fields b) (eqb (length b) (report_bytes b)) (and_right (leb header_bytes (length b)) _ w.header) in
        let zones = whole_all unit aggregate cnv_room seq_room b (framed b w.header).whole in
        rw (there, good) (ap (passed_from unit aggregate cnv_room seq_room []) zones ∙ zones_passed unit aggregate cnv_room seq_room [] (zones_of b) w.zones)

    pub cnv_finished : finished_cnv unit aggregate cnv_room seq_room b ≡ cnv_rows aggregate (file_zones b)
    unfolding finished_cnv file_zones
    cnv_finished =
        all_finished (zone_count b) (passed_zones unit aggregate cnv_room seq_room b) (whole_zones b) (ap length all_passed_lem ∙ zones_length b)
        ∙ ap (λ (p : List Zone). cnv_rows aggregate (drop 1 p)) all_passed_lem

    pub seq_finished : finished_seq unit aggregate cnv_room seq_room b ≡ seq_rows (file_zones b)
    unfolding finished_seq file_zones
    seq_finished = ap (λ (p : List Zone). seq_rows (drop 1 p)) all_passed_lem
