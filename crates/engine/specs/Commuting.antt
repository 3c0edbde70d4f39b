-- Inputs about different files commute, where neither marks the mount read-only, the account is true, and none is answered 10, 11 or 12: each is
-- answered as if the other hadn't come, and the state after both is the same in either order.
use Rattle.std.specs.Prelude.{◌≡◌}
use Rattle.engine.specs.Engine.{State, Input, step}
use Rattle.engine.specs.Frame.{kind_in, number_in}
use Rattle.engine.specs.Counts.{Counted, Unread}

-- they name different files
abbrev pub Apart : Input → Input → Type 0
Apart x y = kind_in x ≡ kind_in y → number_in x ≡ number_in y → ⊥

-- from this state the input leaves the mark as it is
abbrev pub Unmarking : State → Input → Type 0
Unmarking s x = (step s x).state.mount.readonly ≡ s.mount.readonly

-- neither is answered 10, 11 or 12, alone or after the other: 11 and 12 come from opens under explicit-open alone, and 10 from no state that a mount
-- leads to
pub record Unheeding (s : State) (x y : Input) : Type 0 where
  pub first : Unread (step s x).reply
  pub second : Unread (step s y).reply
  pub first_later : Unread (step (step s y).state x).reply
  pub second_later : Unread (step (step s x).state y).reply

pub record Commutes (s : State) (x y : Input) : Type 0 where
  pub first : (step (step s y).state x).reply ≡ (step s x).reply
  pub second : (step (step s x).state y).reply ≡ (step s y).reply
  pub state : (step (step s x).state y).state ≡ (step (step s y).state x).state

unfoldable pub Commuting : Type 0
Commuting = (s : State) (x y : Input) → Counted s → Apart x y → Unmarking s x → Unmarking s y → Unheeding s x y → Commutes s x y
