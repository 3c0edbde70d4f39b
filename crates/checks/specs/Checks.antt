-- The checks that calls and completions share: "Calls check in the order 10 (counts), 1, 10 (row), 2, then as below; finding a name or showing a row
-- stops before 2."
use Rattle.std.specs.Prelude.{ℕ, ◌/◌, List, Bool, cond, not, ◌&&◌, length, eqb, leb, ltb, Option, Result, Ok, Err, Some, None}
use Rattle.types.specs.declared.Volume.{Volume}
use Rattle.types.specs.declared.Mount.{Mount}
use Rattle.types.specs.declared.Row.{Row}
use Rattle.types.specs.declared.FileKind.{FileKind}
use Rattle.types.specs.declared.Condition.{Condition}
use Rattle.types.specs.declared.Access.{Access}
use Rattle.types.specs.declared.Refusal.{Refusal}
use Rattle.types.specs.declared.Refusal.TheVariants as refusal
use Rattle.types.specs.Blocks.{sector_bytes, block_sectors, good_block, on_block, whole_blocks, ends_in_reach, most_files}
use Rattle.types.specs.Kinds.{of_kind, files_of}
use Rattle.types.specs.Predicates.{means, is_conventional, is_read_only, is_offline, is_none, is_write}
use Rattle.account.specs.Account.{is_open, account_fits, counted}
use Rattle.table.specs.Rows.{Slot}
use Rattle.table.specs.Rows.{rows_lent, row_at}

-- what a lookup finds: a file's row as its words say, or that there is no such file
abbrev pub Lookup : Type 0
Lookup = Option Slot

-- a row that a call may go on with, or the refusal
abbrev pub Checked : Type 0
Checked = Result Row Refusal

-- ---- 10 (counts): "more files of either kind than rows lent or than 1,022, a wrong block", and 02: "Files in 10 may now be up to 65,535", "an
-- account above the seq file count"

abbrev pub files_fit : ℕ → ℕ → Bool
files_fit files words = leb files (rows_lent words) && leb files most_files

-- of a mount, and the words of its conventional and of its sequential table
unfoldable pub counts_fit : Mount → ℕ → ℕ → Bool
counts_fit m cnv seq =
    files_fit m.volume.conventional cnv && files_fit m.volume.sequential seq && good_block m.volume.block
    && account_fits m.volume m.account

-- ---- 1: "no such file"

-- the file of number i among a table's files
abbrev pub row_in : List ℕ → ℕ → ℕ → Lookup
row_in table files i = cond (ltb i files) (Some (row_at table i)) None

unfoldable pub lookup_of : Volume → List ℕ → List ℕ → FileKind → ℕ → Lookup
lookup_of v cnv seq k i = row_in (of_kind k cnv seq) (files_of k v) i

-- "a kind above 1 answers 1": past 10 (counts)
abbrev pub no_kind : Mount → ℕ → ℕ → Refusal
no_kind m cnv seq = cond (counts_fit m cnv seq) refusal.NoFile refusal.Impossible

-- ---- 10 (row): "a named row that breaks these"

-- "start and capacity nonzero block multiples, start + capacity ≤ 2^40 sectors"
abbrev pub placed : ℕ → ℕ → ℕ → Bool
placed block start capacity =
    whole_blocks (block_sectors block) start && whole_blocks block capacity && ends_in_reach start (capacity / sector_bytes)

-- "size a block multiple ≤ capacity"
abbrev pub sized : ℕ → ℕ → ℕ → Bool
sized block capacity size = on_block block size && leb size capacity

-- "offline means access none, access none means size 0, read-only means access not write"
abbrev pub allowed : Condition → Access → ℕ → Bool
allowed c a size = means (is_offline c) (is_none a) && means (is_none a) (eqb size 0) && means (is_read_only c) (not (is_write a))

-- "a cnv row whose access isn't none is full-size"
abbrev pub full : FileKind → Access → ℕ → ℕ → Bool
full k a size capacity = means (is_conventional k && not (is_none a)) (eqb size capacity)

-- 02: no "opens in a row without write access"
abbrev pub openable : Row → Bool
openable r = means (is_open r) (is_write r.access)

unfoldable pub sound_row : ℕ → FileKind → Row → Bool
sound_row block k r =
    placed block r.start r.capacity && sized block r.capacity r.size
    && allowed r.condition r.access r.size && full k r.access r.size r.capacity && openable r

-- and beside the account, 02: not "0 in what the named row counts in"
abbrev pub sound_slot : Mount → FileKind → Slot → Checked
sound_slot m k (Ok r) = cond (sound_row m.volume.block k r && counted m k r) (Ok r) (Err refusal.Impossible)
sound_slot m k (Err o) = Err refusal.Impossible

-- ---- in order

-- 1, then 10 (row)
abbrev pub found_row : Mount → FileKind → Lookup → Checked
found_row m k (Some x) = sound_slot m k x
found_row m k None = Err refusal.NoFile

-- 10 (counts), 1, 10 (row): the row of file i of a kind, or the refusal
unfoldable pub file_of : Mount → List ℕ → List ℕ → FileKind → ℕ → Checked
file_of m cnv seq k i =
    cond (counts_fit m (length cnv) (length seq)) (found_row m k (lookup_of m.volume cnv seq k i)) (Err refusal.Impossible)
