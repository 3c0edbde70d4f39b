-- "a held command that no call on its file, with row and mount as they are but nothing held, would issue": `issuable` says exactly that
-- there is such a call, the read-only mark aside, as 02 has it, on the file "as its file stood before that call, account and limits aside".
-- Assumes nothing.
use Rattle.std.specs.Prelude.{Ok}
use mathlib.Core.Path.{◌≡◌, refl, sym, ap, ◌∙◌, subst}
use mathlib.Core.Bool.{Bool, true, false, ◌&&◌}
use Rattle.types.specs.declared.Account.{Account}
use Rattle.types.specs.declared.Volume.{Volume}
use Rattle.types.specs.declared.Mount.{Mount}
use Rattle.types.specs.declared.Row.{Row}
use Rattle.types.specs.declared.FileKind.{FileKind}
use Rattle.types.specs.declared.Command.{Command}
use Rattle.types.specs.declared.Call.{Call}
use Rattle.types.specs.declared.Outstanding.TheVariants.{Idle}
use Rattle.types.specs.declared.Refusal.TheVariants.{OpenLimit, ActiveLimit}
use Rattle.types.specs.declared.Granted.TheVariants.{Issue}
use Rattle.types.proofs.VerdictLaws.{check_passes, after-passes}
use Rattle.types.proofs.Tests.{cases}
use Rattle.table.specs.Rows.{cleared, with_opens}
use Rattle.account.specs.Account.{is_open, is_active, raises, limit_check}
use Rattle.checks.specs.Checks.{openable}
use Rattle.decision.specs.Decision.{answer_on, opens_file, called, limits_of}
use Rattle.decision.proofs.Laws.{dispatch_passes, limited-passes, limits_of-others, limits_of-opens}
use Rattle.calls.specs.Calls.{on_row}
use Rattle.held.specs.Held.{reissue, stood_before, issuable}
use Rattle.held.proofs.Issuable.{issuable_call, issuable-openable, issuable-opens, issuable-complete, answer_on_held}

-- an account without limits: "0 means none"
abbrev limitless : Account
limitless = record { opened = 0; active = 0; open_limit = 0; active_limit = 0 }

and_none : (a b : Bool) → a && (b && false) ≡ false
and_none true true = refl
and_none true false = refl
and_none false b = refl

no_limits : (explicit : Bool) (k : FileKind) (r : Row) (x : Call) → limits_of explicit limitless k r x ≡ Ok tt
unfolding limit_check
no_limits explicit k r x =
    cases (opens_file k x)
    (λ e.
    let after = called k x r in
    sym (limits_of-opens explicit limitless k r x e)
    ∙ check_passes OpenLimit (and_none explicit (raises (is_open r) (is_open after)))
    (check_passes ActiveLimit (and_none explicit (raises (is_active explicit r) (is_active explicit after))) refl))
    (limits_of-others explicit limitless k r x)

module _ (v : Volume) (k : FileKind) (r : Row) (c : Command) where
  -- the mount without its mark and without limits
  abbrev pub unmarked : Mount
  unmarked = record { volume = v; readonly = false; account = limitless }

  -- some call, past 10 and 1 on the row as it stood before it, with nothing held, issues the command and leaves the row
  pub record Reissued : Type 0 where
    pub before : Row
    pub sound : openable before ≡ true
    pub call : Call
    pub leaves : called k call before ≡ r
    pub issues : on_row unmarked k (cleared before) call ≡ Ok (Issue c)

  as_row : (q : Row) (x : Call) → on_row unmarked k (cleared q) x ≡ answer_on v.explicit v.block k q x
  as_row q x =
      after-passes (check_passes _ refl refl)
      ∙ limited-passes _ _ (no_limits v.explicit k (cleared q) x)
      ∙ dispatch_passes false v.explicit v.block k (cleared q) x refl
      ∙ answer_on_held v.explicit v.block k q Idle x

  pub issuable_exactly : (issuable v.explicit v.block k r c ≡ true → Reissued) × (Reissued → issuable v.explicit v.block k r c ≡ true)
  issuable_exactly = (there, back)
    where
      there : issuable v.explicit v.block k r c ≡ true → Reissued
      there h = record {
        before = stood_before r c;
        sound = issuable-openable v.explicit v.block k r c h;
        call = reissue r c;
        leaves = ap (with_opens r) (issuable-opens v.explicit v.block k r c h);
        issues = as_row (stood_before r c) (reissue r c) ∙ issuable_call v.explicit v.block k r c h;
      }

      back : Reissued → issuable v.explicit v.block k r c ≡ true
      back q =
          subst (λ (x : Row). issuable v.explicit v.block k x c ≡ true) q.leaves
          (issuable-complete v.explicit v.block k q.before q.call c q.sound (sym (as_row q.before q.call) ∙ q.issues))
