-- The held command of a completion. 02: "Completions check 10 (counts), 1, 8, 10 (row), 9." Here all but 9.
use Rattle.std.specs.Prelude.{ℕ, ◌+◌, ◌-◌, List, Bool, false, cond, ◌&&◌, length, eqb, Result, Ok, Err, Some, None}
use Rattle.types.specs.declared.Mount.{Mount}
use Rattle.types.specs.declared.Row.{Row}
use Rattle.types.specs.declared.Held.{Held}
use Rattle.types.specs.declared.FileKind.{FileKind}
use Rattle.types.specs.declared.Refusal.{Refusal}
use Rattle.types.specs.declared.Refusal.TheVariants as refusal
use Rattle.types.specs.declared.CommandKind.{CommandKind}
use Rattle.types.specs.declared.CommandKind.TheVariants as kind
use Rattle.types.specs.declared.Command.{Command}
use Rattle.types.specs.declared.Call.{Call}
use Rattle.types.specs.Answers.{Answer}
use Rattle.types.specs.declared.Granted.TheVariants as granted
use Rattle.types.specs.declared.Outstanding.{Outstanding}
use Rattle.types.specs.declared.Outstanding.TheVariants.{Idle, Busy, Unknown}
use Rattle.types.specs.Blocks.{bytes_of}
use Rattle.types.specs.Codes.{command_code}
use Rattle.table.specs.Rows.{outstanding_in, with_opens}
use Rattle.checks.specs.Checks.{Lookup}
use Rattle.checks.specs.Checks.{Checked}
use Rattle.checks.specs.Checks.{counts_fit, lookup_of, openable, sound_slot}
use Rattle.decision.specs.Decision.{answer_on, opens_after}

-- what a completion is about: the held command with its row, or the refusal
abbrev pub Pending : Type 0
Pending = Result (Held × Row) Refusal

-- ---- "a held command that no call on its file, with row and mount as they are but nothing held, would issue"

abbrev pub same_command : Command → Command → Bool
same_command a b =
    eqb (command_code a.kind) (command_code b.kind) && eqb a.address b.address && eqb a.length b.length

-- the answer is this command
abbrev pub issues : Answer → Command → Bool
issues (Ok (granted.Issue a)) c = same_command a c
issues (Ok (granted.Done count)) c = false
issues (Err x) c = false

-- the one call that can issue a command of this kind, at this offset and with this length
abbrev pub call_for : Row → CommandKind → ℕ → ℕ → Call
call_for r kind.Read offset length = Call.Read offset length
call_for r kind.Write offset length = Call.Write offset length
call_for r kind.Reset offset length = Call.Truncate 0
call_for r kind.Finish offset length = Call.Truncate r.capacity
call_for r kind.Flush offset length = Call.Flush
call_for r kind.Open offset length = Call.Open
call_for r kind.Close offset length = Call.Close

-- the call that would have issued the command
abbrev pub reissue : Row → Command → Call
reissue r c = call_for r c.kind (c.address - bytes_of r.start) c.length

-- 02: "10 takes a held open or close as its file stood before that call", with one open less, or one more
abbrev pub opens_before : CommandKind → ℕ → ℕ
opens_before kind.Read opens = opens
opens_before kind.Write opens = opens
opens_before kind.Reset opens = opens
opens_before kind.Finish opens = opens
opens_before kind.Flush opens = opens
opens_before kind.Open opens = opens - 1
opens_before kind.Close opens = opens + 1

abbrev pub stood_before : Row → Command → Row
stood_before r c = with_opens r (opens_before c.kind r.opens)

-- some call on the row as it stood before would issue the command, with the mount's option and block, and leave this row's opens: the call that
-- would have, made again, on a row that has opens only with write access, as all others answer 10. 02: "account and limits aside", and "10's test of a
-- held command no longer looks at the read-only mark"
unfoldable pub issuable : Bool → ℕ → FileKind → Row → Command → Bool
issuable explicit block k r c =
    issues (answer_on explicit block k (stood_before r c) (reissue r c)) c
    && eqb (opens_after k (reissue r c) (stood_before r c).opens) r.opens && openable (stood_before r c)

abbrev pub issuable_on : Mount → Held → Row → Bool
issuable_on m h r = issuable m.volume.explicit m.volume.block h.kind r h.command

-- ---- 02: "Completions check 10 (counts), 1, 8, 10 (row), 9."

-- 10, for the row, and then for a command that no call on it would issue
abbrev pub held_on : Mount → Held → Checked → Pending
held_on m h (Ok r) = cond (issuable_on m h r) (Ok (h, r)) (Err refusal.Impossible)
held_on m h (Err x) = Err refusal.Impossible

-- a file's held command
abbrev pub hold_of : FileKind → ℕ → Command → Held
hold_of k i c = record { kind = k; number = i; command = c }

-- 8, "completion with nothing outstanding", which is about the named file; a code that is no command's is outstanding, and then 10
abbrev pub pending_by : Mount → FileKind → ℕ → Checked → Outstanding → Pending
pending_by m k i file Idle = Err refusal.NothingOutstanding
pending_by m k i file (Busy c) = held_on m (hold_of k i c) file
pending_by m k i file Unknown = Err refusal.Impossible

-- 1, "no such file"
abbrev pub pending_in : Mount → FileKind → ℕ → Lookup → Pending
pending_in m k i (Some x) = pending_by m k i (sound_slot m k x) (outstanding_in x)
pending_in m k i None = Err refusal.NoFile

-- the held command of file i of a kind with its row, or the refusal
unfoldable pub pending_of : Mount → List ℕ → List ℕ → FileKind → ℕ → Pending
pending_of m cnv seq k i =
    cond (counts_fit m (length cnv) (length seq)) (pending_in m k i (lookup_of m.volume cnv seq k i)) (Err refusal.Impossible)
