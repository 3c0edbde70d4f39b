-- The number and the values of each answer, as paper 01 gives them: "When the drawer says no", and 0 for what is not refused. 02 adds reasons, 11 to 14, 33 and 34.
use Rattle.std.specs.Prelude.{ℕ, List, [], ◌∷◌, Result, Ok, Err}
use Rattle.types.specs.declared.Refusal.{Refusal}
use Rattle.types.specs.declared.Refusal.TheVariants.{NoFile, Busy, ReadOnlyMount, Denied, BeyondCapacity, Misplaced, Failed, NothingOutstanding, BadRecord, Impossible, BadBlock, SuperLength, SuperMagic, SuperChecksum, SuperFeatures, SuperOwner, SuperTail, BadOptions, BadReport, BadZone, TooFewRows, SuperPerm, LabelLength, OpenLimit, ActiveLimit, NotOpen, TooManyOpens}
use Rattle.types.specs.declared.RefusalCode.{RefusalCode}
use Rattle.types.specs.declared.Values.{Values}
use Rattle.types.specs.declared.Values.TheVariants.{Nothing, One, Two}
use Rattle.types.specs.Answers.{Verdict}
use Rattle.types.specs.Answers.{Answer}
use Rattle.types.specs.declared.Granted.TheVariants as granted
use Rattle.types.specs.Answers.{MountAnswer}
use Rattle.types.specs.Answers.{FindAnswer}
use Rattle.types.specs.Answers.{ShowAnswer}
use Rattle.types.specs.Answers.{FormatAnswer}
use Rattle.types.specs.Codes.{flag_code, kind_code, condition_code, access_code, command_code, fault_code}

-- ---- a refusal

-- a number with no value, one with a value, and one with two
abbrev pub plain : ℕ → RefusalCode
plain number = record { number = number; values = Nothing }

abbrev pub with_value : ℕ → ℕ → RefusalCode
with_value number value = record { number = number; values = One value }

abbrev pub with_two : ℕ → ℕ → ℕ → RefusalCode
with_two number first second = record { number = number; values = Two first second }

-- the table "When the drawer says no"
abbrev pub refusal_code : Refusal → RefusalCode
-- "no such file or name"
refusal_code NoFile = plain 1
-- "a command is outstanding"; 02: "Number 2 is now about the named file"
refusal_code Busy = plain 2
-- "the mount is read-only"
refusal_code ReadOnlyMount = plain 3
-- "access too low (a read needs read, all else write); truncating cnv, or to neither 0 nor capacity"
refusal_code Denied = plain 4
-- "offset + length above capacity"
refusal_code BeyondCapacity = plain 5
-- "seq write off the block, or offset ≠ size"
refusal_code Misplaced = plain 6
-- "the disk failed it (completion digested)", "for NO 7 the new size"
refusal_code (Failed size) = with_value 7 size
-- "completion with nothing outstanding"; 02: "8 and the completion name a file"
refusal_code NothingOutstanding = plain 8
-- "failed completion's zone record doesn't fit"; 02: "Answers 29 and 9 carry it on", the reason
refusal_code (BadRecord fault) = with_value 9 (fault_code fault)
-- "mount value or tables impossible"
refusal_code Impossible = plain 10
-- "block"
refusal_code BadBlock = plain 20
-- "super block length, magic, checksum"
refusal_code SuperLength = plain 21
refusal_code SuperMagic = plain 22
refusal_code SuperChecksum = plain 23
-- "features beyond bit 3; uid or gid in use and 0xFFFFFFFF; nonzero tail"
refusal_code SuperFeatures = plain 24
refusal_code SuperOwner = plain 25
refusal_code SuperTail = plain 26
-- "options"
refusal_code BadOptions = plain 27
-- "report header or length"
refusal_code BadReport = plain 28
-- "bad zone, with the lowest zone number", "for 29 the zone"; 02: with the reason, and "The tape prints it last on the line."
refusal_code (BadZone zone fault) = with_two 29 zone (fault_code fault)
-- "too few rows for either kind"
refusal_code TooFewRows = plain 30
-- 02: "With feature bit 3, a perm above 0777 (octal) now refuses the mount with 33"
refusal_code SuperPerm = plain 33
-- 02: "a label longer than 64 bytes 34"
refusal_code LabelLength = plain 34
-- 02: "an open that would raise the open count above its limit answers 11, the active count 12"
refusal_code OpenLimit = plain 11
refusal_code ActiveLimit = plain 12
-- 02: "A close .. answers 13 without an open; with the option so does a seq write to a file not open"
refusal_code NotOpen = plain 13
-- 02: "A 65,536th open of one file answers 14"
refusal_code TooManyOpens = plain 14

-- the values as a list
abbrev pub listed : Values → List ℕ
listed Nothing = []
listed (One a) = a ∷ []
listed (Two a b) = a ∷ b ∷ []

abbrev pub refusal_number : Refusal → ℕ
refusal_number x = (refusal_code x).number

abbrev pub refusal_values : Refusal → List ℕ
refusal_values x = listed (refusal_code x).values

-- ---- answers

-- 0 for what is not refused
abbrev pub number_of : {A : Type 0} → Result A Refusal → ℕ
number_of (Ok a) = 0
number_of (Err x) = refusal_number x

-- what checks find
abbrev pub verdict_number : Verdict → ℕ
verdict_number = number_of

abbrev pub verdict_values : Verdict → List ℕ
verdict_values (Ok tt) = []
verdict_values (Err x) = refusal_values x

abbrev pub answer_number : Answer → ℕ
answer_number = number_of

-- the count, or the command: "a kind, a byte address and a byte length"
abbrev pub answer_values : Answer → List ℕ
answer_values (Err r) = refusal_values r
answer_values (Ok (granted.Done count)) = count ∷ []
answer_values (Ok (granted.Issue c)) = command_code c.kind ∷ c.address ∷ c.length ∷ []

abbrev pub mount_number : MountAnswer → ℕ
mount_number = number_of

-- "for MO 0 both file counts, cnv first"
abbrev pub mount_values : MountAnswer → List ℕ
mount_values (Err r) = refusal_values r
mount_values (Ok (conventional, sequential)) = conventional ∷ sequential ∷ []

abbrev pub find_number : FindAnswer → ℕ
find_number = number_of

abbrev pub find_values : FindAnswer → List ℕ
find_values (Err r) = refusal_values r
find_values (Ok (kind, number)) = kind_code kind ∷ number ∷ []

abbrev pub show_number : ShowAnswer → ℕ
show_number = number_of

-- "start, capacity in bytes, size, condition, access (write, read, none)", and "the mode shown"
abbrev pub show_values : ShowAnswer → List ℕ
show_values (Err r) = refusal_values r
show_values (Ok (row, mode)) =
    row.start ∷ row.capacity ∷ row.size ∷ condition_code row.condition ∷ access_code row.access ∷ mode ∷ []

abbrev pub format_number : FormatAnswer → ℕ
format_number = number_of

-- 02: "say whether zone 0 must first be finished": 1 for yes
abbrev pub format_values : FormatAnswer → List ℕ
format_values (Err r) = refusal_values r
format_values (Ok finish) = flag_code finish ∷ []
