-- One walk over a report's zones, which takes a zone at a time into a small state: how the code goes. The laws `cnv_walk` and `seq_walk`
-- show that the rows it finishes are those of `Files`, and `cnv_count_lem` and `seq_count` that it counts them.
use Rattle.std.specs.Prelude.{ℕ, ◌+◌, List, [], ◌∷◌, Bool, true, false, cond, not, ◌&&◌, eqb}
use Rattle.types.specs.Blocks.{bytes_of}
use Rattle.types.specs.Codes.{flag_code}
use Rattle.types.specs.declared.Row.{Row}
use Rattle.zones.specs.declared.Zone.{Zone}
use Rattle.zones.specs.Zone.{conventional, sequential, healthy}
use Rattle.files.specs.declared.Run.{Run}
use Rattle.files.specs.declared.Walk.{Walk}
use Rattle.files.specs.Files.{file_row, row_if, seq_row}

-- ---- the run that is not finished

abbrev pub no_run : Run
no_run = record { active = false; start = 0; capacity = 0; healthy = true }

abbrev pub first_run : Zone → Run
first_run z = record { active = true; start = z.start; capacity = z.capacity; healthy = healthy z }

abbrev pub longer_run : Run → Zone → Run
longer_run s z = record { active = true; start = s.start; capacity = s.capacity + z.capacity; healthy = s.healthy && healthy z }

-- the run after z, where s was the run before it
unfoldable pub next_run : Bool → Run → Zone → Run
next_run aggregate s z = cond (conventional z) (cond (aggregate && s.active) (longer_run s z) (first_run z)) no_run

-- z finishes the run s
abbrev pub run_ends : Bool → Run → Zone → Bool
run_ends aggregate s z = s.active && not (aggregate && conventional z)

abbrev pub row_of_run : Run → Row
row_of_run s = file_row s.healthy s.start (bytes_of s.capacity) (bytes_of s.capacity)

-- ---- the walk

-- before zone 0: "the first starts at 0"
abbrev pub begun : Walk
begun = record { number = 0; expected = 0; run = no_run; cnvs = 0; seqs = 0 }

-- zone 0 comes next
abbrev pub at_zone0 : Walk → Bool
at_zone0 w = eqb w.number 0

-- "Zone 0 never": it belongs to no run, and is no seq file
abbrev pub run_after : Bool → Walk → Zone → Run
run_after aggregate w z = cond (at_zone0 w) no_run (next_run aggregate w.run z)

abbrev pub is_seq_file : Walk → Zone → Bool
is_seq_file w z = not (at_zone0 w) && sequential z

-- after z: "each next where the last ended"
unfoldable pub stepped : Bool → Walk → Zone → Walk
stepped aggregate w z =
    record {
      number = w.number + 1;
      expected = z.start + z.length;
      run = run_after aggregate w z;
      cnvs = w.cnvs + flag_code (run_ends aggregate w.run z);
      seqs = w.seqs + flag_code (is_seq_file w z);
    }

-- after all of these zones
unfoldable pub walked : Bool → Walk → List Zone → Walk
walked aggregate w [] = w
walked aggregate w (z ∷ zs) = walked aggregate (stepped aggregate w z) zs

-- how many cnv files there are, if no zone comes: the run is finished too
abbrev pub cnv_files : Walk → ℕ
cnv_files w = w.cnvs + flag_code w.run.active

-- ---- the rows that these zones finish, and at the end the run

unfoldable pub cnv_left : Bool → Walk → List Zone → List Row
cnv_left aggregate w [] = row_if w.run.active (row_of_run w.run) []
cnv_left aggregate w (z ∷ zs) =
    row_if (run_ends aggregate w.run z) (row_of_run w.run) (cnv_left aggregate (stepped aggregate w z) zs)

unfoldable pub seq_left : Bool → Walk → List Zone → List Row
seq_left aggregate w [] = []
seq_left aggregate w (z ∷ zs) = row_if (is_seq_file w z) (seq_row z) (seq_left aggregate (stepped aggregate w z) zs)
