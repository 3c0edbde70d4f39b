-- "What becomes a file": the rows of a list of zones, which leaves out zone 0.
use Rattle.std.specs.Prelude.{ℕ, ◌+◌, List, [], ◌∷◌, map, Bool, true, false, ◌&&◌}
use Rattle.types.specs.Blocks.{bytes_of}
use Rattle.types.specs.declared.Row.{Row}
use Rattle.table.specs.Rows.{healthy_row, offline_row}
use Rattle.zones.specs.declared.Zone.{Zone}
use Rattle.zones.specs.Zone.{conventional, sequential, healthy, written_size}

-- "Healthy: .. access write. Read-only or offline at mount ..: kept as offline, size 0, access none."
abbrev pub file_row : Bool → ℕ → ℕ → ℕ → Row
file_row true start capacity size = healthy_row start capacity size
file_row false start capacity size = offline_row start capacity

-- a row in front of others, or none
abbrev pub row_if : Bool → Row → List Row → List Row
row_if true r rs = r ∷ rs
row_if false r rs = rs

-- ---- the seq files

-- "sequential size = (pointer − start) × 512", and a full zone's its capacity
abbrev pub seq_row : Zone → Row
seq_row z = file_row (healthy z) z.start (bytes_of z.capacity) (written_size z)

-- "Each sequential zone is one `seq` file"
unfoldable pub seq_rows : List Zone → List Row
seq_rows [] = []
seq_rows (z ∷ zs) = row_if (sequential z) (seq_row z) (seq_rows zs)

-- ---- the cnv files

abbrev pub starts_conventional : List Zone → Bool
starts_conventional [] = false
starts_conventional (z ∷ zs) = conventional z

-- a zone in front of the first run
abbrev pub joined : Zone → List (List Zone) → List (List Zone)
joined z [] = (z ∷ []) ∷ []
joined z (run ∷ rest) = (z ∷ run) ∷ rest

-- the runs with z before them: z is in none, in one by itself, or in the run of the zone after it
abbrev pub runs_with : Bool → Bool → Zone → List (List Zone) → List (List Zone)
runs_with false joins z rest = rest
runs_with true false z rest = (z ∷ []) ∷ rest
runs_with true true z rest = joined z rest

-- "each conventional zone one `cnv` file; with feature bit 0 each longest run of neighbouring conventional zones (zone 0 left out) is one"
unfoldable pub runs : Bool → List Zone → List (List Zone)
runs aggregate [] = []
runs aggregate (z ∷ zs) = runs_with (conventional z) (aggregate && starts_conventional zs) z (runs aggregate zs)

-- the first zone's start
abbrev pub start_of : List Zone → ℕ
start_of [] = 0
start_of (z ∷ zs) = z.start

-- the sum of the capacities
unfoldable pub capacity_of : List Zone → ℕ
capacity_of [] = 0
capacity_of (z ∷ zs) = z.capacity + capacity_of zs

-- no zone of the run is read-only or offline
unfoldable pub all_healthy : List Zone → Bool
all_healthy [] = true
all_healthy (z ∷ zs) = healthy z && all_healthy zs

-- "conventional size = capacity", and "any such zone in a run: kept as offline"
abbrev pub run_row : List Zone → Row
run_row run = file_row (all_healthy run) (start_of run) (bytes_of (capacity_of run)) (bytes_of (capacity_of run))

unfoldable pub cnv_rows : Bool → List Zone → List Row
cnv_rows aggregate zs = map run_row (runs aggregate zs)
