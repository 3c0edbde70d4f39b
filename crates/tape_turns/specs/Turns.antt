-- What each record of a tape does: "One line per record from MO on".
use Rattle.std.specs.Prelude.{ℕ, ◌+◌, List, Bool, true, false, cond, Option, Ok, Err, Some, None}
use Rattle.types.specs.declared.Call.{Call}
use Rattle.types.specs.Answers.{MountAnswer}
use Rattle.types.specs.Mounts.{empty_mount}
use Rattle.mount.specs.Mount.{Mounting, mount_outcome}
use Rattle.completion.specs.Completions.{Completion, completion_by}
use Rattle.engine.specs.Engine.{State, mounted, call, completion, Step, step}
use Rattle.tape_records.specs.declared.Record.{Record}
use Rattle.tape_records.specs.declared.Record.TheVariants.{OnFile, End}
use Rattle.tape_records.specs.declared.Mark.{Mark}
use Rattle.tape_records.specs.Records.{call_bytes, end_mark, end_bytes, end_record, record_at, opens, block_of, super_bytes, report_bytes, option_bytes, open_limit_of, active_limit_of, run_place}
use Rattle.tape_lines.specs.Lines.{call_line, completion_line, mount_line, broken_line}

-- what a record leaves: whether the tape goes on, the place of the next record, and the state for it
pub record Rest : Type 0 where
  pub more : Bool
  pub next : ℕ
  pub state : State

-- what a record does
pub record Turn : Type 0 where
  pub line : List ℕ
  pub rest : Rest

abbrev pub turn : List ℕ → Bool → ℕ → State → Turn
turn line more next s = record { line = line; rest = record { more = more; next = next; state = s } }

-- "Unknown, misplaced or cut record: `?? 40`, stop."
abbrev pub broken_turn : ℕ → State → Turn
broken_turn at s = turn broken_line false at s

-- ---- a record after `MO`: one step of the engine, its line from the reply

abbrev pub call_turn : ℕ → Call → Step → Turn
call_turn next x t = turn (call_line x t.reply) true next t.state

abbrev pub completion_turn : ℕ → Mark → ℕ → ℕ → Step → Turn
completion_turn next m kind number t = turn (completion_line m kind number t.reply) true next t.state

-- that the command was done, or "`NO` with 64 bytes (capacity always given)"
abbrev pub completion_at : List ℕ → ℕ → Bool → Completion
completion_at b at done = completion_by done true (end_record done b at)

abbrev pub end_turn : List ℕ → ℕ → State → ℕ → ℕ → Bool → Turn
end_turn b at s kind number done =
    completion_turn (at + end_bytes done) (end_mark done) kind number (step s (completion kind number (completion_at b at done)))

abbrev pub turn_of : List ℕ → ℕ → State → Option Record → Turn
turn_of b at s (Some (OnFile kind number x)) = call_turn (at + call_bytes) x (step s (call kind number x))
turn_of b at s (Some (End kind number done)) = end_turn b at s kind number done
turn_of b at s None = broken_turn at s

unfoldable pub turn_at : List ℕ → ℕ → State → Turn
turn_at b at s = turn_of b at s (record_at b at)

-- ---- the first four records, as one

-- "Refused mount: stop."
abbrev pub goes_on : MountAnswer → Bool
goes_on (Err r) = false
goes_on (Ok (cnvs, seqs)) = true

abbrev pub mount_turn : ℕ → Mounting → Turn
mount_turn next o = turn (mount_line o.answer) (goes_on o.answer) next (mounted o)

abbrev pub mounting : List ℕ → List ℕ → List ℕ → Mounting
mounting b cnv seq = mount_outcome (block_of b) (super_bytes b) (option_bytes b) (report_bytes b) (open_limit_of b) (active_limit_of b) cnv seq

unfoldable pub open_turn : List ℕ → List ℕ → List ℕ → Turn
open_turn b cnv seq =
    cond (opens b) (mount_turn (run_place b) (mounting b cnv seq)) (broken_turn 0 (record { mount = empty_mount; cnv = cnv; seq = seq }))
