-- A chain of checks, of which the first that fails decides: "Mount checks run 20 to 30", "Calls check in the order ..".
use Rattle.std.specs.Prelude.{Bool, true, false, Result, Ok, Err}
use Rattle.types.specs.declared.Refusal.{Refusal}
use Rattle.types.specs.Answers.{Verdict}
use Rattle.types.specs.Answers.{Answer}

-- one check: its refusal where it fails, else what the rest finds
unfoldable pub refuse : Bool → Refusal → Verdict → Verdict
refuse true x rest = Err x
refuse false x rest = rest

-- checks whose finding is a verdict already: what they refuse, else what the rest finds
unfoldable pub and_then : Verdict → Verdict → Verdict
and_then (Ok tt) rest = rest
and_then (Err x) rest = Err x

-- the answer of a call: the refusal that its checks find, else the rest
unfoldable pub answer_after : Verdict → Answer → Answer
answer_after (Ok tt) rest = rest
answer_after (Err x) rest = Err x

-- what is given where the checks are passed
abbrev pub giving : {A : Type 0} → Verdict → A → Result A Refusal
giving (Ok tt) a = Ok a
giving (Err x) a = Err x
