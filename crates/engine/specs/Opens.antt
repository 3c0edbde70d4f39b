-- 02: "A 65,536th open of one file answers 14": a file that is open takes opens until it has 65,535, each answered 0, and then none. For any state.
use Rattle.std.specs.Prelude.{ℕ, suc, ◌+◌, ◌≤◌, ◌<◌, false, ◌≡◌, List, [], ◌∷◌, ◌++◌, replicate, Ok, Err}
use Rattle.types.specs.declared.Row.{Row}
use Rattle.types.specs.declared.Call.{Call}
use Rattle.types.specs.declared.FileKind.TheVariants.{Sequential}
use Rattle.types.specs.declared.Access.TheVariants as access
use Rattle.types.specs.declared.Refusal.TheVariants.{TooManyOpens}
use Rattle.types.specs.declared.Granted.TheVariants.{Done}
use Rattle.types.specs.declared.Outstanding.TheVariants.{Idle}
use Rattle.types.specs.Codes.{kind_code}
use Rattle.table.specs.Rows.{with_opens}
use Rattle.checks.specs.Facts.{Reached}
use Rattle.decision.specs.Decision.{most_opens}
use Rattle.engine.specs.Engine.{State, Input, Run, run}

-- seq file n, whose row is r, is open, and neither 10, 1, 2, 3 nor 4 stands in the way of another open
pub record OpenFile (s : State) (n : ℕ) (r : Row) : Type 0 where
  pub reached : Reached s.mount s.cnv s.seq Sequential n r
  pub idle : r.outstanding ≡ Idle
  pub writable : s.mount.readonly ≡ false
  pub access : r.access ≡ access.Write
  pub opened : 0 < r.opens

abbrev pub opens_of : ℕ → ℕ → List Input
opens_of n times = replicate times (Input.call (kind_code Sequential) n Call.Open)

-- so many opens are answered at once, and the file has so many more
pub record Further (n : ℕ) (r : Row) (times : ℕ) (t : Run) : Type 0 where
  pub replies : t.replies ≡ replicate times (Ok (Done 0))
  pub file : OpenFile t.state n (with_opens r (r.opens + times))

unfoldable pub FurtherOpens : Type 0
FurtherOpens = (s : State) (n : ℕ) (r : Row) → OpenFile s n r → (times : ℕ) → r.opens + times ≤ most_opens → Further n r times (run s (opens_of n times))

-- those that lead to 65,535 are answered 0, and the one after them 14: of a file that was opened once, 65,534 and then the 65,536th
unfoldable pub LastOpen : Type 0
LastOpen =
    (s : State) (n : ℕ) (r : Row) → OpenFile s n r → (times : ℕ) → r.opens + times ≡ most_opens
    → (run s (opens_of n (suc times))).replies ≡ replicate times (Ok (Done 0)) ++ Err TooManyOpens ∷ []
