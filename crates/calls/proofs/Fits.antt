-- THE ROW that a call stores, whatever it answers, is its file's, which is lent.
-- Assumes nothing.
use Rattle.std.specs.Prelude.{Ok, Err, Some, None}
use Prim.Native.Nat.{ℕ}
use mathlib.Core.Bool.{Bool, true, false, cond}
use mathlib.Core.List.{List}
use Rattle.types.specs.declared.Mount.{Mount}
use Rattle.types.specs.declared.Row.{Row}
use Rattle.types.specs.declared.Call.{Call}
use Rattle.types.specs.declared.FileKind.{FileKind}
use Rattle.types.specs.Answers.{Answer}
use Rattle.types.specs.declared.Granted.TheVariants.{Done, Issue}
use Rattle.table.specs.Facts.{StoreFits}
use Rattle.checks.specs.Facts.{Reached}
use Rattle.checks.proofs.Laws.{reached_lent}
use Rattle.decision.specs.Decision.{counts, called}
use Rattle.calls.specs.Calls.{store_at_once, settled}

module _ (m : Mount) (cnv seq : List ℕ) (k : FileKind) (i : ℕ) (x : Call) where
  at_once_fits : (r : Row) → Reached m cnv seq k i r → StoreFits cnv seq (store_at_once k i r x)
  at_once_fits r w = by (counts k x)
    where
      by : (t : Bool) → StoreFits cnv seq (cond t (Some (k, i, called k x r)) None)
      by true = reached_lent m cnv seq k i r w
      by false = tt

  pub settled_fits : (r : Row) (a : Answer) → Reached m cnv seq k i r → StoreFits cnv seq (settled m k i r x a).store
  settled_fits r (Err y) w = tt
  settled_fits r (Ok (Done count)) w = at_once_fits r w
  settled_fits r (Ok (Issue c)) w = reached_lent m cnv seq k i r w
