-- The account, 02: "From a mount on, after any calls and completions, both numbers are the true counts.", "only 10, 11 and 12 may read it", and what
-- there is without the option.
use Rattle.std.specs.Prelude.{ℕ, ◌≡◌, ◌≢◌, false, List, Ok}
use Rattle.types.specs.declared.Account.{Account}
use Rattle.types.specs.declared.Call.{Call}
use Rattle.types.specs.declared.Command.{Command}
use Rattle.types.specs.Answers.{Answer}
use Rattle.types.specs.declared.Granted.TheVariants.{Issue}
use Rattle.types.specs.declared.Refusal.TheVariants as refusal
use Rattle.types.specs.Commands.{opens_or_closes}
use Rattle.types.specs.Mounts.{with_account}
use Rattle.types.specs.Numbers.{refusal_number, answer_number, mount_number}
use Rattle.account.specs.Counts.{TrueCounts}
use Rattle.mount.specs.Mount.{mount_outcome}
use Rattle.engine.specs.Engine.{State, mounted, Input, call, Step, step, run}

-- ---- "both numbers are the true counts"

abbrev pub Counted : State → Type 0
Counted s = TrueCounts s.mount s.seq

-- of one step, whatever comes in, and whatever the disk tells
unfoldable pub StaysCounted : Type 0
StaysCounted = (s : State) (x : Input) → Counted s → Counted (step s x).state

-- "From a mount on, after any calls and completions"
unfoldable pub AlwaysCounted : Type 0
AlwaysCounted =
    (block : ℕ) (superblock options report : List ℕ) (open_limit active_limit : ℕ) (cnv seq : List ℕ)
    → let o = mount_outcome block superblock options report open_limit active_limit cnv seq in
    mount_number o.answer ≡ 0 → (inputs : List Input) → Counted (run (mounted o) inputs).state

-- ---- "only 10, 11 and 12 may read it"

-- the state with another account
abbrev pub under : State → Account → State
under s a = record { mount = with_account s.mount a; cnv = s.cnv; seq = s.seq }

-- the answer is none of these
pub record Unread (reply : Answer) : Type 0 where
  pub possible : answer_number reply ≢ refusal_number refusal.Impossible
  pub opens : answer_number reply ≢ refusal_number refusal.OpenLimit
  pub activates : answer_number reply ≢ refusal_number refusal.ActiveLimit

-- the same answer with its command, the same rows and the same mark
pub record SameButAccount (t u : Step) : Type 0 where
  pub reply : t.reply ≡ u.reply
  pub cnv : t.state.cnv ≡ u.state.cnv
  pub seq : t.state.seq ≡ u.state.seq
  pub mark : t.state.mount.readonly ≡ u.state.mount.readonly

unfoldable pub OnlyThreeRead : Type 0
OnlyThreeRead =
    (s : State) (a b : Account) (x : Input) → Unread (step (under s a) x).reply → Unread (step (under s b) x).reply
    → SameButAccount (step (under s a) x) (step (under s b) x)

-- ---- "Without the option they only count and command nothing."

-- what a call answers then: neither 11 nor 12, no zone open or close, and to a write no 13
pub record Plain (x : Call) (a : Answer) : Type 0 where
  pub opens : answer_number a ≢ refusal_number refusal.OpenLimit
  pub activates : answer_number a ≢ refusal_number refusal.ActiveLimit
  pub commands : (c : Command) → a ≡ Ok (Issue c) → opens_or_closes c.kind ≡ false
  pub writes : (offset length : ℕ) → x ≡ Call.Write offset length → answer_number a ≢ refusal_number refusal.NotOpen

unfoldable pub WithoutOption : Type 0
WithoutOption = (s : State) (kind n : ℕ) (x : Call) → s.mount.volume.explicit ≡ false → Plain x (step s (call kind n x)).reply
