-- 02, K4: "let the report arrive in pieces cut anywhere". What its header does when it is there, and what each of its zones does: what is
-- checked, and which rows are stored. A zone goes by the walk of `files`.
use Rattle.std.specs.Prelude.{ℕ, ◌+◌, List, Bool, false, cond, not, ◌&&◌, ◌||◌, length, eqb, leb, ltb, Ok, Err}
use Rattle.types.specs.Codes.{flag_code}
use Rattle.types.specs.declared.Refusal.{Refusal}
use Rattle.types.specs.declared.Refusal.TheVariants.{BadReport, BadZone, TooFewRows}
use Rattle.types.specs.declared.Row.{Row}
use Rattle.table.specs.Rows.{rows_lent, set_row}
use Rattle.account.specs.Account.{is_active}
use Rattle.zones.specs.declared.Zone.{Zone}
use Rattle.zones.specs.Zone.{conventional, good_zone}
use Rattle.zones.specs.Faults.{zone_fault}
use Rattle.files.specs.declared.Walk.{Walk}
use Rattle.files.specs.Files.{seq_row}
use Rattle.files.specs.Walk.{run_ends, row_of_run, begun, at_zone0, is_seq_file, stepped}
use Rattle.report.specs.Report.{zone_count, capacity_given, good_fields}
use Rattle.intake.specs.declared.Rule.{Rule}
use Rattle.intake.specs.declared.Intake.{Intake}

-- what has been taken of a report, and both tables
pub record Taking : Type 0 where
  pub intake : Intake
  pub cnv : List ℕ
  pub seq : List ℕ

-- before its first byte
abbrev pub nothing_taken : Intake
nothing_taken = record { check = Ok tt; count = 0; given = false; walk = begun; active = 0 }

-- with a refusal, and else as it was
abbrev pub refused_with : Intake → Refusal → Intake
refused_with i x = record { check = Err x; count = i.count; given = i.given; walk = i.walk; active = i.active }

-- ---- the header

-- "28", at the header's last byte, where its sector, count or flags are bad
unfoldable pub header_taken : Intake → List ℕ → Intake
header_taken i h =
    cond (good_fields h) (record { check = i.check; count = zone_count h; given = capacity_given h; walk = i.walk; active = i.active })
    (refused_with i BadReport)

-- ---- which files a zone begins and finishes

-- z begins a file of conventional zones. Zone 0 is no file and belongs to no run.
abbrev pub begins_cnv : Bool → Walk → Zone → Bool
begins_cnv aggregate w z = not (at_zone0 w) && conventional z && not (aggregate && w.run.active)

-- "a run is finished by .. a good zone of another type": with feature bit 0, z finishes the run before it
abbrev pub ends_before : Bool → Walk → Zone → Bool
ends_before aggregate w z = aggregate && run_ends aggregate w.run z

-- "a run is finished by the count's last zone", and without feature bit 0 each conventional zone is a file, finished with its zone: the zone that led to
-- this walk finishes the run that it belongs to
abbrev pub ends_with : Bool → ℕ → Walk → Bool
ends_with aggregate count after = after.run.active && (not aggregate || eqb after.number count)

-- ---- the rows that it stores

-- a row that is asked for, where the table has it
abbrev pub put_row : Bool → List ℕ → ℕ → Row → List ℕ
put_row asked t i r = cond (asked && ltb i (rows_lent (length t))) (set_row t i r) t

-- a row is asked for that the table doesn't have
abbrev pub lacks : Bool → ℕ → ℕ → Bool
lacks asked i rows = asked && leb rows i

-- "30 is given at the first zone, itself good, of the first file that has no row", by the table that is lent then; where a shorter table is lent than
-- when a run began, also at the zone that finishes it
unfoldable pub no_row : Bool → ℕ → Walk → Zone → ℕ → ℕ → Bool
no_row aggregate count w z cnv_rows seq_rows =
    lacks (ends_before aggregate w z) w.cnvs cnv_rows
    || lacks (begins_cnv aggregate w z || ends_with aggregate count (stepped aggregate w z)) (stepped aggregate w z).cnvs cnv_rows
    || lacks (is_seq_file w z) w.seqs seq_rows

-- the run before z, where z finishes it
abbrev pub run_stored : Bool → Walk → Zone → List ℕ → List ℕ
run_stored aggregate w z cnv = put_row (ends_before aggregate w z) cnv w.cnvs (row_of_run w.run)

-- z is a seq file, and active from the start
abbrev pub active_file : Bool → Walk → Zone → Bool
active_file explicit w z = is_seq_file w z && is_active explicit (seq_row z)

-- ---- a zone

-- a zone that is taken, as none is after a refusal: the walk goes on, and what is finished with it is stored
unfoldable pub filed : Rule → Taking → Zone → Taking
filed r s z =
    record {
      intake = record {
        check = Ok tt;
        count = s.intake.count;
        given = s.intake.given;
        walk = stepped r.aggregate s.intake.walk z;
        active = s.intake.active + flag_code (active_file r.explicit s.intake.walk z);
      };
      cnv = put_row (ends_with r.aggregate s.intake.count (stepped r.aggregate s.intake.walk z)) s.cnv
          (stepped r.aggregate s.intake.walk z).cnvs (row_of_run (stepped r.aggregate s.intake.walk z).run);
      seq = put_row (is_seq_file s.intake.walk z) s.seq s.intake.walk.seqs (seq_row z);
    }

-- a good zone: the run that it finishes is stored "before a 30 there"
unfoldable pub good_taken : Rule → Taking → Zone → Taking
good_taken r s z =
    cond (no_row r.aggregate s.intake.count s.intake.walk z (rows_lent (length s.cnv)) (rows_lent (length s.seq)))
    (record {
      intake = refused_with s.intake TooFewRows;
      cnv = run_stored r.aggregate s.intake.walk z s.cnv;
      seq = s.seq;
    })
    (filed r (record { intake = s.intake; cnv = run_stored r.aggregate s.intake.walk z s.cnv; seq = s.seq }) z)

-- "a zone's fault at its last byte": 29 with its number and reason. A bad zone finishes nothing.
unfoldable pub zone_taken : Rule → Taking → Zone → Taking
zone_taken r s z =
    cond (good_zone r.unit s.intake.walk.expected z) (good_taken r s z)
    (record {
      intake = refused_with s.intake (BadZone s.intake.walk.number (zone_fault r.unit s.intake.walk.expected z));
      cnv = s.cnv;
      seq = s.seq;
    })
