-- Zones taken one after the other, none after a refusal; and what they come to.
-- Assumes nothing.
use Rattle.std.specs.Prelude.{Ok, Err}
use Prim.Native.Nat.{ℕ}
use mathlib.Core.Path.{◌≡◌}
use mathlib.Core.List.{List, [], ◌∷◌}
use mathlib.Core.Bool.{Bool}
use lib.ListN.{length, drop}
use Rattle.types.specs.Answers.{Verdict}
use Rattle.table.specs.Rows.{rows_lent}
use Rattle.account.specs.Account.{is_active}
use Rattle.account.specs.Counts.{count_in}
use Rattle.zones.specs.declared.Zone.{Zone}
use Rattle.files.specs.Files.{seq_rows}
use Rattle.files.specs.Walk.{begun, walked}
use Rattle.mount.specs.Fill.{fill}
use Rattle.intake.specs.declared.Rule.{Rule}
use Rattle.intake.specs.Steps.{Taking, zone_taken}
use Rattle.first_fault.specs.FirstFault.{fault_from, passed_from, finished_runs}

abbrev pub zone_after : Verdict → Rule → Taking → Zone → Taking
zone_after (Ok tt) r s z = zone_taken r s z
zone_after (Err x) r s z = s

unfoldable pub zones_taken : Rule → Taking → List Zone → Taking
zones_taken r s [] = s
zones_taken r s (z ∷ zs) = zones_taken r (zone_after s.intake.check r s z) zs

-- after a good header
abbrev pub after_header : ℕ → Bool → List ℕ → List ℕ → Taking
after_header count given cnv seq =
    record { intake = record { check = Ok tt; count = count; given = given; walk = begun; active = 0 }; cnv = cnv; seq = seq }

-- what no fault leaves: the walk over all of them, and the active files counted
pub record AllTaken (r : Rule) (s : Taking) (zs : List Zone) : Type 0 where
  pub walk : s.intake.walk ≡ walked r.aggregate begun zs
  pub active : s.intake.active ≡ count_in (is_active r.explicit) s.seq s.intake.walk.seqs

-- what zones come to that were taken to s, after a header that counts `count`
pub record Came (r : Rule) (count : ℕ) (given : Bool) (cnv seq : List ℕ) (zs : List Zone) (s : Taking) : Type 0 where
  pub check : s.intake.check ≡ fault_from r.unit r.aggregate (rows_lent (length cnv)) (rows_lent (length seq)) [] zs
  pub cnvs : s.cnv
      ≡ fill cnv (finished_runs r.unit r.aggregate (rows_lent (length cnv)) (rows_lent (length seq)) count
      (passed_from r.unit r.aggregate (rows_lent (length cnv)) (rows_lent (length seq)) [] zs) zs)
  pub seqs : s.seq ≡ fill seq (seq_rows (drop 1 (passed_from r.unit r.aggregate (rows_lent (length cnv)) (rows_lent (length seq)) [] zs)))
  pub counts : s.intake.count ≡ count
  pub gives : s.intake.given ≡ given
  pub whole : s.intake.check ≡ Ok tt → AllTaken r s zs
