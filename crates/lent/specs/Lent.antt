-- Opens, closes and completions of a mount whose account is lent. 01: "a struct of two counts and two limits lent by &mut and changed in place at
-- open, close and completion". Each is a step of the engine, on the mount that the account is part of.
use Rattle.std.specs.Prelude.{ℕ, List}
use Rattle.types.specs.declared.Account.{Account}
use Rattle.types.specs.declared.Mount.{Mount}
use Rattle.types.specs.Answers.{Answer}
use Rattle.types.specs.declared.Call.{Call}
use Rattle.types.specs.declared.Call.TheVariants as call
use Rattle.completion.specs.Completions.{Completion, completion_of}
use Rattle.engine.specs.Engine.{State, Input, Step, step}
use Rattle.lent.specs.declared.Asked.{Asked}
use Rattle.lent.specs.declared.Failed.{Failed}
use Rattle.lent.specs.declared.Settled.{Settled}

-- the mount, of what is asked and the account that is lent beside it
abbrev pub mount_with : Account → Asked → Mount
mount_with a x = record { volume = x.volume; readonly = x.readonly; account = a }

-- the state that is found, with both tables
abbrev pub state_with : Account → List ℕ → List ℕ → Asked → State
state_with a cnv seq x = record { mount = mount_with a x; cnv = cnv; seq = seq }

-- a call, an open and a close among them, and the two completions of what is outstanding on the file
abbrev pub called : Account → List ℕ → List ℕ → Asked → Call → Step
called a cnv seq x c = step (state_with a cnv seq x) (Input.call x.kind x.number c)

abbrev pub opened : Account → List ℕ → List ℕ → Asked → Step
opened a cnv seq x = called a cnv seq x call.Open

abbrev pub closed : Account → List ℕ → List ℕ → Asked → Step
closed a cnv seq x = called a cnv seq x call.Close

abbrev pub completed : Account → List ℕ → List ℕ → Asked → Step
completed a cnv seq x = step (state_with a cnv seq x) (Input.completion x.kind x.number Completion.good)

abbrev pub failed : Account → List ℕ → List ℕ → Failed → List ℕ → Step
failed a cnv seq x bytes =
    step (state_with a cnv seq x.asked) (Input.completion x.asked.kind x.asked.number (completion_of x.given bytes))

-- what is handed back of an answer and a mount, without what the mount fixes: the answer, the mark, and, in place, the account
abbrev pub settled_of : Answer → Mount → Settled
settled_of answer m = record { reply = record { answer = answer; readonly = m.readonly }; account = m.account }

-- of a step
abbrev pub settled_by : Step → Settled
settled_by t = settled_of t.reply t.state.mount
