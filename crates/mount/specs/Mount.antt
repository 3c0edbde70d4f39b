-- What a mount gives: its answer, the mount value, and both tables.
use Rattle.std.specs.Prelude.{ℕ, List, Bool, true, false, not, ◌||◌, length, drop, ltb, Ok, Err, Some, None}
use Rattle.types.specs.Blocks.{block_sectors, good_block}
use Rattle.types.specs.Verdicts.{refuse, and_then}
use Rattle.types.specs.Mounts.{empty_mount}
use Rattle.types.specs.declared.Refusal.TheVariants.{BadBlock, BadOptions, TooFewRows}
use Rattle.types.specs.Answers.{Verdict}
use Rattle.types.specs.declared.Row.{Row}
use Rattle.types.specs.declared.ErrorPolicy.{ErrorPolicy}
use Rattle.types.specs.declared.ErrorPolicy.TheVariants.{RemountRo}
use Rattle.types.specs.declared.Account.{Account}
use Rattle.types.specs.declared.Volume.{Volume}
use Rattle.types.specs.declared.Mount.{Mount}
use Rattle.types.specs.Answers.{MountAnswer}
use Rattle.table.specs.Rows.{rows_lent}
use Rattle.account.specs.Account.{is_active}
use Rattle.account.specs.Counts.{count_in}
use Rattle.superblock.specs.declared.SuperBlock.{SuperBlock}
use Rattle.superblock.specs.SuperBlock.{super_read, found_in, fields_in}
use Rattle.options.specs.Options.{Options}
use Rattle.options.specs.Options.{options_of}
use Rattle.zones.specs.declared.Zone.{Zone}
use Rattle.files.specs.Files.{cnv_rows, seq_rows}
use Rattle.report.specs.Report.{zones_of, report_check}
use Rattle.mount.specs.Fill.{fill}

-- ---- the checks

abbrev pub bad_options : Options → Bool
bad_options (Some a) = false
bad_options None = true

-- "Zone 0 never"
unfoldable pub file_zones : List ℕ → List Zone
file_zones b = drop 1 (zones_of b)

-- "too few rows for either kind"
abbrev pub too_few : ℕ → ℕ → ℕ → ℕ → Bool
too_few cnv_room seq_room cnvs seqs = ltb cnv_room cnvs || ltb seq_room seqs

-- 20 to 27, with what was found of the super block, where 02 puts 33
unfoldable pub opening_check : ℕ → Verdict → Options → Verdict
opening_check block found options =
    refuse (not (good_block block)) BadBlock (and_then found (refuse (bad_options options) BadOptions (Ok tt)))

-- 28 to 30, with room for so many rows of each kind
unfoldable pub files_check : ℕ → Bool → List ℕ → ℕ → ℕ → Verdict
files_check block aggregate b cnv_room seq_room =
    and_then (report_check (block_sectors block) b)
    (refuse (too_few cnv_room seq_room (length (cnv_rows aggregate (file_zones b))) (length (seq_rows (file_zones b)))) TooFewRows (Ok tt))

-- "Mount checks run 20 to 30.", and 33 of 02 among the super block's
unfoldable pub mount_check : ℕ → Verdict → Options → Bool → List ℕ → ℕ → ℕ → Verdict
mount_check block found options aggregate b cnv_room seq_room =
    and_then (opening_check block found options) (files_check block aggregate b cnv_room seq_room)

-- ---- what it gives

-- the refusal, or the numbers of files
unfoldable pub answer_for : Verdict → ℕ → ℕ → MountAnswer
answer_for (Ok tt) cnvs seqs = Ok (cnvs, seqs)
answer_for (Err x) cnvs seqs = Err x

unfoldable pub mount_answer_of : ℕ → Verdict → Options → Bool → List ℕ → ℕ → ℕ → MountAnswer
mount_answer_of block found options aggregate b cnv_room seq_room =
    answer_for (mount_check block found options aggregate b cnv_room seq_room) (length (cnv_rows aggregate (file_zones b))) (length (seq_rows (file_zones b)))

-- bad options have none; the mount is refused then
abbrev pub policy_of : Options → ErrorPolicy
policy_of (Some a) = a.policy
policy_of None = RemountRo

abbrev pub explicit_of : Options → Bool
explicit_of (Some a) = a.explicit
explicit_of None = false

-- 02: "The mount keeps one small running account": none is open, so many files are active, and "two limits given at mount (0 means none)"
abbrev pub account_of : ℕ → ℕ → ℕ → Account
account_of active open_limit active_limit =
    record { opened = 0; active = active; open_limit = open_limit; active_limit = active_limit }

-- what it fixes, with so many files
abbrev pub volume_of : ℕ → ℕ → ℕ → SuperBlock → Options → Volume
volume_of cnvs seqs block fields options =
    record {
      block = block;
      conventional = cnvs;
      sequential = seqs;
      owner = fields.owner;
      group = fields.group;
      mode = fields.mode;
      policy = policy_of options;
      explicit = explicit_of options;
      uuid = fields.uuid;
    }

-- the mount value, which is not read-only; its rows have nothing outstanding. Active are those of its sequential files, in the table that it leaves,
-- whose rows say so
unfoldable pub mount_of : MountAnswer → ℕ → SuperBlock → Options → ℕ → ℕ → List ℕ → Mount
mount_of (Err x) block fields options open_limit active_limit seq = empty_mount
mount_of (Ok (cnvs, seqs)) block fields options open_limit active_limit seq =
    record {
      volume = volume_of cnvs seqs block fields options;
      readonly = false;
      account = account_of (count_in (is_active (explicit_of options)) seq seqs) open_limit active_limit;
    }

-- a refused mount changes nothing
unfoldable pub table_after : MountAnswer → List ℕ → List Row → List ℕ
table_after (Err x) t rows = t
table_after (Ok (cnvs, seqs)) t rows = fill t rows

pub record Mounting : Type 0 where
  pub answer : MountAnswer
  pub mount : Mount
  pub cnv : List ℕ
  pub seq : List ℕ

-- "with feature bit 0"
abbrev pub aggregated : List ℕ → Bool
aggregated superblock = (fields_in (super_read superblock)).aggregate

module _ (block : ℕ) (superblock options report : List ℕ) (open_limit active_limit : ℕ) (cnv seq : List ℕ) where
  unfoldable pub mount_answer : MountAnswer
  mount_answer =
      mount_answer_of block (found_in (super_read superblock)) (options_of options) (aggregated superblock) report (rows_lent (length cnv)) (rows_lent (length seq))

  abbrev pub seq_after : List ℕ
  seq_after = table_after mount_answer seq (seq_rows (file_zones report))

  unfoldable pub mount_outcome : Mounting
  mount_outcome =
      record {
        answer = mount_answer;
        mount = mount_of mount_answer block (fields_in (super_read superblock)) (options_of options) open_limit active_limit seq_after;
        cnv = table_after mount_answer cnv (cnv_rows (aggregated superblock) (file_zones report));
        seq = seq_after;
      }
