-- What the laws of this crate say of an effect, each in one place: what it keeps of the mark, and of everything where it is refused; that one
-- which is answered at once changes nothing; and that the counts are the true ones after it.
-- Assumes nothing.
use Rattle.std.specs.Prelude.{Ok}
use Prim.Native.Nat.{ℕ}
use mathlib.Core.Path.{◌≡◌}
use mathlib.Core.Logic.{◌≢◌}
use Rattle.types.specs.declared.FileKind.TheVariants.{Sequential}
use Rattle.types.specs.declared.Granted.TheVariants.{Done}
use Rattle.types.specs.declared.Effect.{Effect}
use Rattle.types.specs.Numbers.{answer_number}
use Rattle.table.specs.Rows.{stored}
use Rattle.account.specs.Counts.{TrueCounts}
use Rattle.engine.specs.Engine.{State, applied}

pub record Spares (s : State) (d : Effect) : Type 0 where
  pub mark : answer_number d.outcome.answer ≢ 7 → d.outcome.mount.readonly ≡ s.mount.readonly
  pub refused : answer_number d.outcome.answer ≢ 0 → answer_number d.outcome.answer ≢ 7 → applied s d ≡ s

abbrev pub Still : State → ℕ → Effect → Type 0
Still s count d = d.outcome.answer ≡ Ok (Done count) → applied s d ≡ s

abbrev pub CountedAfter : State → Effect → Type 0
CountedAfter s d = TrueCounts d.outcome.mount (stored Sequential d.store s.seq)
