-- What a call answers on its row, past the checks that all calls share: its own checks in the paper's order, and then a count or a command.
use Rattle.std.specs.Prelude.{ℕ, ◌+◌, ◌-◌, min, Bool, true, false, cond, not, ◌&&◌, ◌||◌, eqb, leb, ltb, Ok, Err}
use Rattle.types.specs.declared.Account.{Account}
use Rattle.types.specs.declared.Row.{Row}
use Rattle.types.specs.declared.FileKind.{FileKind}
use Rattle.types.specs.declared.FileKind.TheVariants.{Conventional, Sequential}
use Rattle.types.specs.declared.Access.{Access}
use Rattle.types.specs.declared.Refusal.TheVariants.{ReadOnlyMount, Denied, BeyondCapacity, Misplaced, NotOpen, TooManyOpens}
use Rattle.types.specs.declared.CommandKind.{CommandKind}
use Rattle.types.specs.declared.CommandKind.TheVariants as kind
use Rattle.types.specs.declared.Command.{Command}
use Rattle.types.specs.Answers.{Verdict}
use Rattle.types.specs.Answers.{Answer}
use Rattle.types.specs.declared.Granted.TheVariants.{Done, Issue}
use Rattle.types.specs.declared.Call.{Call}
use Rattle.types.specs.Blocks.{bytes_of, on_block}
use Rattle.types.specs.Predicates.{is_conventional, is_none, is_write}
use Rattle.types.specs.Verdicts.{refuse, answer_after}
use Rattle.table.specs.Rows.{with_opens}
use Rattle.account.specs.Account.{is_open, is_full, is_empty, limit_check}

-- ---- the tests

-- 3: "Write: 3, ..", "Truncate: 3, ..", "Flush: 3, ..", and no read
abbrev pub changes : FileKind → Call → Bool
changes k (Call.Read offset length) = false
changes k (Call.Write offset length) = true
changes k (Call.Truncate target) = true
changes k Call.Flush = true
-- 02: an open for seq "after 3 and 4"; "A close skips 3 and 4"; "on cnv both are answered 0 after 2"
changes k Call.Open = not (is_conventional k)
changes k Call.Close = false

-- 4: "access too low (a read needs read, all else write)"
abbrev pub unreadable : Access → Bool
unreadable a = is_none a

abbrev pub unwritable : Access → Bool
unwritable a = not (is_write a)

-- 4: "truncating cnv, or to neither 0 nor capacity"
abbrev pub bad_target : FileKind → ℕ → ℕ → Bool
bad_target Conventional capacity target = true
bad_target Sequential capacity target = not (eqb target 0 || eqb target capacity)

-- 02, 14: "A 65,536th open of one file"
abbrev pub most_opens : ℕ
most_opens = 65535

-- 02, 13: "with the option so does a seq write to a file not open"
abbrev pub unopened : Bool → FileKind → Row → Bool
unopened explicit k r = explicit && (not (is_conventional k) && not (is_open r))

-- 5: "offset + length above capacity"
abbrev pub beyond : ℕ → ℕ → ℕ → Bool
beyond capacity offset length = ltb capacity (offset + length)

-- 6: "seq write off the block, or offset ≠ size"
abbrev pub misplaced : FileKind → ℕ → ℕ → ℕ → ℕ → Bool
misplaced Conventional block size offset length = false
misplaced Sequential block size offset length = not (on_block block offset && on_block block length) || not (eqb offset size)

-- ---- counts and commands

-- "answered 0 at once" where the test holds, else the rest
unfoldable pub at_once : Bool → Answer → Answer
at_once true rest = Ok (Done 0)
at_once false rest = rest

-- "a kind, a byte address (start × 512, plus the offset for reads and writes) and a byte length (0 but for reads and writes)"
abbrev pub command_of : CommandKind → ℕ → ℕ → ℕ → Command
command_of k start offset length = record { kind = k; address = bytes_of start + offset; length = length }

-- of a whole file
abbrev pub file_command : CommandKind → Row → Command
file_command k r = command_of k r.start 0 0

-- "the smaller of length and size − offset, 0 from size on"
abbrev pub read_count : ℕ → ℕ → ℕ → ℕ
read_count size offset length = min length (size - offset)

-- "Zero: answered 0 at once. Else a .. command."
abbrev pub transfer : CommandKind → ℕ → ℕ → ℕ → Answer
transfer k start offset count = at_once (eqb count 0) (Ok (Issue (command_of k start offset count)))

-- "Already that size: answered 0. Else to 0 a reset, to capacity a finish."
abbrev pub resize : Row → ℕ → Answer
resize r target = at_once (eqb target r.size) (Ok (Issue (file_command (cond (eqb target 0) kind.Reset kind.Finish) r)))

-- 02: with the option "The first open of a file that isn't full commands a zone open", "others are answered 0"
abbrev pub opening : Bool → Row → Answer
opening explicit r = at_once (not (explicit && (not (is_open r) && not (is_full r)))) (Ok (Issue (file_command kind.Open r)))

-- 02: with the option "the last close of one neither empty nor full a zone close; others are answered 0"
abbrev pub closing : Bool → Row → Answer
closing explicit r =
    at_once (not (explicit && (eqb r.opens 1 && (not (is_empty r) && not (is_full r))))) (Ok (Issue (file_command kind.Close r)))

-- ---- each call on its row

-- "Read: 4 (access none), 5. Count = .. Zero: answered 0 at once. Else a read command."
unfoldable pub read_checks : Row → ℕ → ℕ → Verdict
read_checks r offset length =
    refuse (unreadable r.access) Denied
    (refuse (beyond r.capacity offset length) BeyondCapacity
    (Ok tt))

unfoldable pub read_row : Row → ℕ → ℕ → Answer
read_row r offset length =
    answer_after (read_checks r offset length) (transfer kind.Read r.start offset (read_count r.size offset length))

-- "Write: 3, 4, 5, then for seq 6. Length 0: answered 0. Else a write command."; 02: 13 "after 4 and before 5"
unfoldable pub write_checks : Bool → ℕ → FileKind → Row → ℕ → ℕ → Verdict
write_checks explicit block k r offset length =
    refuse (unwritable r.access) Denied
    (refuse (unopened explicit k r) NotOpen
    (refuse (beyond r.capacity offset length) BeyondCapacity
    (refuse (misplaced k block r.size offset length) Misplaced
    (Ok tt))))

unfoldable pub write_row : Bool → ℕ → FileKind → Row → ℕ → ℕ → Answer
write_row explicit block k r offset length =
    answer_after (write_checks explicit block k r offset length) (transfer kind.Write r.start offset length)

-- "Truncate: 3, 4. Already that size: answered 0. Else to 0 a reset, to capacity a finish."
unfoldable pub truncate_row : FileKind → Row → ℕ → Answer
truncate_row k r target =
    answer_after (refuse (unwritable r.access || bad_target k r.capacity target) Denied (Ok tt)) (resize r target)

-- "Flush: 3, 4 (needs write), then a flush command."
unfoldable pub flush_row : Row → Answer
flush_row r = answer_after (refuse (unwritable r.access) Denied (Ok tt)) (Ok (Issue (file_command kind.Flush r)))

-- 02: "Add open-for-writing and close, for seq files; on cnv both are answered 0 after 2." Of an open 4 and 14; 11 and 12, which the account decides,
-- come after these (`limited`)
unfoldable pub open_checks : Row → Verdict
open_checks r =
    refuse (unwritable r.access) Denied
    (refuse (leb most_opens r.opens) TooManyOpens
    (Ok tt))

unfoldable pub open_row : Bool → FileKind → Row → Answer
open_row explicit Conventional r = Ok (Done 0)
open_row explicit Sequential r = answer_after (open_checks r) (opening explicit r)

-- 02: "A close skips 3 and 4 and answers 13 without an open"
unfoldable pub close_row : Bool → FileKind → Row → Answer
close_row explicit Conventional r = Ok (Done 0)
close_row explicit Sequential r = answer_after (refuse (not (is_open r)) NotOpen (Ok tt)) (closing explicit r)

-- `explicit` is the option `explicit-open`
abbrev pub answer_on : Bool → ℕ → FileKind → Row → Call → Answer
answer_on explicit block k r (Call.Read offset length) = read_row r offset length
answer_on explicit block k r (Call.Write offset length) = write_row explicit block k r offset length
answer_on explicit block k r (Call.Truncate target) = truncate_row k r target
answer_on explicit block k r Call.Flush = flush_row r
answer_on explicit block k r Call.Open = open_row explicit k r
answer_on explicit block k r Call.Close = close_row explicit k r

-- THE DECISION: 3, "the mount is read-only", and then the call on its row
unfoldable pub dispatched : Bool → Bool → ℕ → FileKind → Row → Call → Answer
dispatched readonly explicit block k r x =
    answer_after (refuse (readonly && changes k x) ReadOnlyMount (Ok tt)) (answer_on explicit block k r x)

-- ---- 02: what opens and closes make of a row

-- "open-for-writing", for seq files
abbrev pub opens_file : FileKind → Call → Bool
opens_file k (Call.Read offset length) = false
opens_file k (Call.Write offset length) = false
opens_file k (Call.Truncate target) = false
opens_file k Call.Flush = false
opens_file k Call.Open = not (is_conventional k)
opens_file k Call.Close = false

-- "and close"
abbrev pub closes_file : FileKind → Call → Bool
closes_file k (Call.Read offset length) = false
closes_file k (Call.Write offset length) = false
closes_file k (Call.Truncate target) = false
closes_file k Call.Flush = false
closes_file k Call.Open = false
closes_file k Call.Close = not (is_conventional k)

-- either: what it does is counted
abbrev pub counts : FileKind → Call → Bool
counts k x = opens_file k x || closes_file k x

abbrev pub opens_after : FileKind → Call → ℕ → ℕ
opens_after k x opens = cond (opens_file k x) (opens + 1) (cond (closes_file k x) (opens - 1) opens)

-- the row once the call is commanded or answered, what it holds then aside
abbrev pub called : FileKind → Call → Row → Row
called k x r = with_opens r (opens_after k x r.opens)

-- ---- 02: 11 and 12, "after 3 and 4, in that order and never otherwise"

-- what the account finds of a call
abbrev pub limits_of : Bool → Account → FileKind → Row → Call → Verdict
limits_of explicit a k r x = cond (opens_file k x) (limit_check explicit a r (called k x r)) (Ok tt)

-- the last checks: what was refused before them stays so
unfoldable pub limited : Verdict → Answer → Answer
limited found (Err x) = Err x
limited found (Ok (Done count)) = answer_after found (Ok (Done count))
limited found (Ok (Issue c)) = answer_after found (Ok (Issue c))
