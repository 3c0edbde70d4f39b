-- The starred cases and the small runs, computed from bytes: what the super blocks say, what the mounts give, and then each of both tables.
-- Here the definitions that they go through are opened, and nowhere above.
-- Assumes nothing.
use Rattle.types.specs.declared.Refusal.{Refusal}
use Rattle.std.specs.Prelude.{Ok, Some, Result}
use mathlib.Core.Bool.{Bool, true, false}
use mathlib.Core.List.{List, [], ◌∷◌}
use mathlib.Core.Path.{◌≡◌, refl, ap}
use Prim.Native.Nat.{ℕ}
use Rattle.types.specs.declared.ErrorPolicy.{ErrorPolicy}
use Rattle.types.specs.declared.ErrorPolicy.TheVariants.{RemountRo, ZoneRo, ZoneOffline, Repair}
use Rattle.types.specs.Stated.{AsStated}
use Rattle.types.specs.Verdicts.{refuse, and_then, answer_after}
use Rattle.wire.specs.Le.{le, little}
use Rattle.crc32.specs.Crc.{crc_from, crc_byte, crc_steps, crc_step, superblock_crc}
use Rattle.table.specs.Rows.{row_at, set_row}
use Rattle.calls.specs.Calls as calls
use Rattle.superblock.specs.declared.SuperBlock.{SuperBlock}
use Rattle.superblock.specs.SuperBlock.{encode_super, nonzero, super_check, fields_of, super_read, fields_in}
use Rattle.text.specs.Text.{same}
use Rattle.account.specs.Account.{is_active, corrected, limit_check, account_fits, counted}
use Rattle.account.specs.Counts.{count_in}
use Rattle.options.specs.Options.{split, skip_empty, piece_of, options_of}
use Rattle.zones.specs.Zone.{encode_zone, good_record, good_zone}
use Rattle.report.specs.Report.{good_header, zones_from, zones_of, encode_zones, encode_report, zones_check, report_check}
use Rattle.files.specs.Files.{seq_rows, runs, capacity_of, all_healthy, cnv_rows}
use Rattle.mount.specs.Fill.{rows_words, fill}
use Rattle.mount.specs.Mount as mounts
use Rattle.mount.specs.Mount.{Mounting, file_zones, opening_check, files_check, mount_check, answer_for, mount_answer_of, mount_of, table_after, mount_answer, mount_outcome}
use Rattle.checks.specs.Checks.{counts_fit, lookup_of, sound_row, file_of}
use Rattle.decision.specs.Decision.{at_once, read_checks, write_checks, read_row, write_row, truncate_row, flush_row, open_checks, open_row, close_row, dispatched, limited}
use Rattle.recovery.specs.Fits.{matches_sequential, within_conventional, record_fits}
use Rattle.recovery.specs.Recovery.{recovered_row}
use Rattle.held.specs.Held.{issuable, pending_of}
use Rattle.completion.specs.Completions.{completion_of, succeeded, recovered}
use Rattle.completion.specs.Completions as completions
use Rattle.engine.specs.Engine as engine
use Rattle.disk.specs.Disk.{zone_holding, moved, struck, allows, perform, reported}
use Rattle.disk.specs.Shows.{shows_zone, shows_record, shows_zones, shows}
use Rattle.consistency.specs.FileHistory.{fresh_size, at_mount, unmoved, after_mishap, after_success, after_failure}
use Rattle.consistency.specs.System.{file_zone, mounted, step, run, all_truthful}
use Rattle.consistency.specs.Cases.{Setting, paper, aggregated, block512, zone4_read_only, zone4_full, by_hand, block_in, aggregates, explicit_in, open_limit_in, active_limit_in, report, superblock, uuid, options_text, mount_under, cases_of}
use Rattle.consistency.specs.Runs.{disk, replies, command_runs, mishap_runs, exception_runs, full_runs, other_runs, busy_runs, open_runs}

-- THE SUPER BLOCKS are good, and say this

abbrev super_says : Bool → Result SuperBlock Refusal
super_says aggregate = Ok (record { aggregate = aggregate; owner = 0; group = 0; mode = 0o640; uuid = uuid aggregate })

super_read_lem : (aggregate : Bool) → super_read (superblock aggregate) ≡ super_says aggregate
unfolding superblock encode_super little le crc_from crc_byte crc_steps crc_step superblock_crc nonzero refuse super_check fields_of super_read
super_read_lem false = refl
super_read_lem true = refl

super_aggregates : (aggregate : Bool) → mounts.aggregated (superblock aggregate) ≡ aggregate
super_aggregates aggregate = ap (λ (r : Result SuperBlock Refusal). (fields_in r).aggregate) (super_read_lem aggregate)

-- THE OPTIONS

options_chosen : (explicit : Bool) (p : ErrorPolicy) → options_of (options_text explicit p) ≡ Some (record { policy = p; explicit = explicit })
unfolding split skip_empty same piece_of options_of
options_chosen false RemountRo = refl
options_chosen false ZoneRo = refl
options_chosen false ZoneOffline = refl
options_chosen false Repair = refl
options_chosen true RemountRo = refl
options_chosen true ZoneRo = refl
options_chosen true ZoneOffline = refl
options_chosen true Repair = refl

-- THE MOUNTS

abbrev cnv_count : Bool → ℕ
cnv_count false = 2
cnv_count true = 1

abbrev cnv_table : Bool → List ℕ
cnv_table false = 524288 ∷ 268435456 ∷ 268435456 ∷ 0 ∷ 2 ∷ 0 ∷ 0 ∷ 0 ∷ 0 ∷ 1048576 ∷ 268435456 ∷ 268435456 ∷ 0 ∷ 2 ∷ 0 ∷ 0 ∷ 0 ∷ 0 ∷ []
cnv_table true = 524288 ∷ 536870912 ∷ 536870912 ∷ 0 ∷ 2 ∷ 0 ∷ 0 ∷ 0 ∷ 0 ∷ 7 ∷ 7 ∷ 7 ∷ 7 ∷ 7 ∷ 7 ∷ 7 ∷ 7 ∷ 7 ∷ []

-- size, condition and access of seq/1, whose zone may be read-only or full, nothing outstanding, and no opens
abbrev last_words : Setting → List ℕ
last_words paper = 0 ∷ 0 ∷ 2 ∷ 0 ∷ 0 ∷ 0 ∷ 0 ∷ []
last_words aggregated = 0 ∷ 0 ∷ 2 ∷ 0 ∷ 0 ∷ 0 ∷ 0 ∷ []
last_words block512 = 0 ∷ 0 ∷ 2 ∷ 0 ∷ 0 ∷ 0 ∷ 0 ∷ []
last_words zone4_read_only = 0 ∷ 2 ∷ 0 ∷ 0 ∷ 0 ∷ 0 ∷ 0 ∷ []
last_words zone4_full = 201326592 ∷ 0 ∷ 2 ∷ 0 ∷ 0 ∷ 0 ∷ 0 ∷ []
last_words (by_hand open_limit active_limit) = 0 ∷ 0 ∷ 2 ∷ 0 ∷ 0 ∷ 0 ∷ 0 ∷ []

abbrev pub mount_gives : Setting → ErrorPolicy → Mounting
mount_gives x p = record {
  answer = Ok (cnv_count (aggregates x), 2);
  mount = record {
    volume = record { block = block_in x; conventional = cnv_count (aggregates x); sequential = 2; owner = 0; group = 0; mode = 0o640; policy = p; explicit = explicit_in x; uuid = uuid (aggregates x) };
    readonly = false;
    account = record { opened = 0; active = 1; open_limit = open_limit_in x; active_limit = active_limit_in x };
  };
  cnv = cnv_table (aggregates x);
  seq = 1572864 ∷ 201326592 ∷ 4096 ∷ 0 ∷ 2 ∷ 0 ∷ 0 ∷ 0 ∷ 0 ∷ 2097152 ∷ 201326592 ∷ last_words x;
}

pub mount_computed : (x : Setting) (p : ErrorPolicy) → mount_under x p ≡ mount_gives x p
unfolding report little encode_zone encode_zones encode_report le
    good_record good_zone good_header zones_from zones_of zones_check report_check
    seq_rows runs capacity_of all_healthy cnv_rows rows_words fill
    refuse and_then opening_check files_check mount_check answer_for file_zones mount_answer_of mount_of table_after mount_answer mount_outcome
    row_at is_active count_in
mount_computed paper p = rw (super_read_lem false, super_aggregates false, options_chosen false p) refl
mount_computed aggregated p = rw (super_read_lem true, super_aggregates true, options_chosen false p) refl
mount_computed block512 p = rw (super_read_lem false, super_aggregates false, options_chosen false p) refl
mount_computed zone4_read_only p = rw (super_read_lem false, super_aggregates false, options_chosen false p) refl
mount_computed zone4_full p = rw (super_read_lem false, super_aggregates false, options_chosen false p) refl
mount_computed (by_hand open_limit active_limit) p = rw (super_read_lem false, super_aggregates false, options_chosen true p) refl

-- the reports show the disks
pub report-shown : (x : Setting) → shows (report x) (disk x) ≡ true
unfolding report disk little encode_zone encode_zones encode_report le good_header zones_from zones_of shows_zone shows_zones shows
report-shown paper = refl
report-shown aggregated = refl
report-shown block512 = refl
report-shown zone4_read_only = refl
report-shown zone4_full = refl
report-shown (by_hand open_limit active_limit) = refl

-- THE TABLES, of the mounts as they are computed

pub record Computed : Type 0 where
  pub cases : AsStated (cases_of (mount_gives paper Repair) (mount_gives aggregated Repair) (mount_gives zone4_full Repair))
  pub commands : AsStated (command_runs mount_gives)
  pub mishaps : AsStated (mishap_runs mount_gives)
  pub exceptions : AsStated (exception_runs mount_gives)
  pub full : AsStated (full_runs mount_gives)
  pub others : AsStated (other_runs mount_gives)
  pub busy : AsStated (busy_runs mount_gives)
  pub opens : AsStated (open_runs mount_gives)

pub computed : Computed
unfolding cases_of command_runs mishap_runs exception_runs full_runs other_runs busy_runs open_runs disk little encode_zone le good_record
    is_active corrected limit_check account_fits counted open_checks open_row close_row limited
    row_at set_row counts_fit lookup_of sound_row file_of refuse answer_after at_once read_checks write_checks read_row write_row truncate_row flush_row dispatched
    issuable pending_of completion_of succeeded matches_sequential within_conventional record_fits recovered_row recovered calls.effect_by completions.effect_by engine.step
    moved struck allows perform reported shows_zone shows_record fresh_size at_mount unmoved after_mishap after_success after_failure zone_holding file_zone mounted step run all_truthful replies
computed = record { cases = refl; commands = refl; mishaps = refl; exceptions = refl; full = refl; others = refl; busy = refl; opens = refl }
