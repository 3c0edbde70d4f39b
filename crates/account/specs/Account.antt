-- 02, K1: which files are open and which active, the running account of both, and its limits.
use Rattle.std.specs.Prelude.{ℕ, ◌+◌, ◌-◌, Bool, true, false, not, ◌&&◌, ◌||◌, eqb, leb, ltb, Ok}
use Rattle.types.specs.declared.Account.{Account}
use Rattle.types.specs.declared.Volume.{Volume}
use Rattle.types.specs.declared.Mount.{Mount}
use Rattle.types.specs.declared.Row.{Row}
use Rattle.types.specs.declared.FileKind.{FileKind}
use Rattle.types.specs.declared.FileKind.TheVariants.{Conventional, Sequential}
use Rattle.types.specs.declared.Refusal.TheVariants.{OpenLimit, ActiveLimit}
use Rattle.types.specs.Answers.{Verdict}
use Rattle.types.specs.Mounts.{with_account}
use Rattle.types.specs.Predicates.{means, is_healthy, is_write}
use Rattle.types.specs.Verdicts.{refuse}

-- ---- a file

-- "A file is open from the moment its first open is commanded or answered until its last close is, a failed open or the loss of write access": while
-- it has opens
abbrev pub is_open : Row → Bool
is_open r = ltb 0 r.opens

abbrev pub is_full : Row → Bool
is_full r = leb r.capacity r.size

abbrev pub is_empty : Row → Bool
is_empty r = eqb r.size 0

-- "It is active while healthy with write access, not full, and either open under the option or not empty."
unfoldable pub is_active : Bool → Row → Bool
is_active explicit r =
    is_healthy r.condition && is_write r.access && not (is_full r) && (explicit && is_open r || not (is_empty r))

-- ---- "one small running account of files open for writing and files active, corrected in place"

-- a count, once a file that it counted or didn't is one that it counts or doesn't
abbrev pub count_after : ℕ → Bool → Bool → ℕ
count_after count true true = count
count_after count true false = count - 1
count_after count false true = count + 1
count_after count false false = count

-- the account, once the row of a sequential file has changed; the limits stay
unfoldable pub corrected : Bool → Account → Row → Row → Account
corrected explicit a before after =
    record {
      opened = count_after a.opened (is_open before) (is_open after);
      active = count_after a.active (is_active explicit before) (is_active explicit after);
      open_limit = a.open_limit;
      active_limit = a.active_limit;
    }

-- the mount, once the row of a file has changed: conventional files count nowhere
abbrev pub accounted : Mount → FileKind → Row → Row → Mount
accounted m Conventional before after = m
accounted m Sequential before after = with_account m (corrected m.volume.explicit m.account before after)

-- ---- "With the option, an open that would raise the open count above its limit answers 11, the active count 12, .. in that order"

-- one more would be above the limit; "0 means none"
abbrev pub exceeds : ℕ → ℕ → Bool
exceeds count limit = ltb 0 limit && ltb limit (count + 1)

-- a count is raised by a file that it doesn't count yet
abbrev pub raises : Bool → Bool → Bool
raises before after = not before && after

-- for an open that changes a row so
unfoldable pub limit_check : Bool → Account → Row → Row → Verdict
limit_check explicit a before after =
    refuse (explicit && (raises (is_open before) (is_open after) && exceeds a.opened a.open_limit)) OpenLimit
    (refuse (explicit && (raises (is_active explicit before) (is_active explicit after) && exceeds a.active a.active_limit)) ActiveLimit
    (Ok tt))

-- ---- "10 also covers .."

-- ".. an account above the seq file count"
unfoldable pub account_fits : Volume → Account → Bool
account_fits v a = leb a.opened v.sequential && leb a.active v.sequential

-- ".. 0 in what the named row counts in"; a conventional row counts nowhere
unfoldable pub counted : Mount → FileKind → Row → Bool
counted m Conventional r = true
counted m Sequential r =
    means (is_open r) (ltb 0 m.account.opened) && means (is_active m.volume.explicit r) (ltb 0 m.account.active)
