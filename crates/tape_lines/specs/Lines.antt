-- The lines that records print: "mark, answer, then .."
use Rattle.std.specs.Prelude.{ℕ, List, [], ◌∷◌, ◌++◌, Ok, Err}
use Prim.Native.Char.{code}
use Rattle.types.specs.declared.Call.{Call}
use Rattle.types.specs.declared.Call.TheVariants as call
use Rattle.types.specs.declared.CommandKind.{CommandKind}
use Rattle.types.specs.declared.CommandKind.TheVariants as command
use Rattle.types.specs.declared.Command.{Command}
use Rattle.types.specs.Answers.{Answer}
use Rattle.types.specs.declared.Granted.TheVariants.{Done, Issue}
use Rattle.types.specs.Answers.{MountAnswer}
use Rattle.types.specs.Numbers.{answer_number, answer_values, mount_number, mount_values, refusal_number, refusal_values}
use Rattle.text.specs.Text.{ascii, field, fields}
use Rattle.tape_records.specs.declared.Letters.{Letters}
use Rattle.tape_records.specs.declared.Mark.{Mark}
use Rattle.tape_records.specs.declared.Mark.TheVariants as mark
use Rattle.tape_records.specs.Records.{letters_of, mount_letters}

-- ---- marks

-- a mark as text
abbrev pub mark_text : Letters → List ℕ
mark_text l = l.first ∷ l.second ∷ []

-- the mark of a call's record
abbrev pub call_mark : Call → Mark
call_mark (call.Read offset length) = mark.Read
call_mark (call.Write offset length) = mark.Write
call_mark (call.Truncate size) = mark.Truncate
call_mark call.Flush = mark.Flush
call_mark call.Open = mark.Open
call_mark call.Close = mark.Close

-- ---- what stands after them

-- "its letter (R W Z reset F finish S flush)"; 02: "`OP` and `CL` (letters O, C) look like FL"
abbrev pub letter_of : CommandKind → ℕ
letter_of command.Read = code "R"
letter_of command.Write = code "W"
letter_of command.Reset = code "Z"
letter_of command.Finish = code "F"
letter_of command.Flush = code "S"
letter_of command.Open = code "O"
letter_of command.Close = code "C"

-- "for a command its letter .., address and length"
abbrev pub command_fields : Command → List ℕ
command_fields c = code " " ∷ letter_of c.kind ∷ fields (c.address ∷ c.length ∷ [])

-- "for an answer at once `D` and count"
abbrev pub done_fields : ℕ → List ℕ
done_fields count = ascii " D" ++ field count

-- "answer, then .."
abbrev pub call_fields : Answer → List ℕ
call_fields (Err r) = fields (refusal_number r ∷ refusal_values r)
call_fields (Ok (Done count)) = field 0 ++ done_fields count
call_fields (Ok (Issue c)) = field 0 ++ command_fields c

-- the file of a completion, before the rest. 02: "the tape's OK and NO carry kind and number before the rest, printed too"
abbrev pub file_fields : ℕ → ℕ → List ℕ
file_fields kind number = fields (kind ∷ number ∷ [])

-- "answer, then .. for OK 0 the count, for NO 7 the new size"; 02: for NO 9 the reason
abbrev pub completion_fields : Answer → List ℕ
completion_fields a = fields (answer_number a ∷ answer_values a)

-- "answer, then for MO 0 both file counts, cnv first, for 29 the zone"; 02: and the reason, "last on the line"
abbrev pub mount_fields : MountAnswer → List ℕ
mount_fields a = fields (mount_number a ∷ mount_values a)

-- ---- the lines

-- a line feed ends a line
abbrev pub line : List ℕ → List ℕ
line text = text ++ (10 ∷ [])

unfoldable pub call_line : Call → Answer → List ℕ
call_line x a = line (mark_text (letters_of (call_mark x)) ++ call_fields a)

unfoldable pub completion_line : Mark → ℕ → ℕ → Answer → List ℕ
completion_line m kind number a = line (mark_text (letters_of m) ++ file_fields kind number ++ completion_fields a)

unfoldable pub mount_line : MountAnswer → List ℕ
mount_line a = line (mark_text mount_letters ++ mount_fields a)

-- "Unknown, misplaced or cut record: `?? 40`"
unfoldable pub broken_line : List ℕ
broken_line = line (mark_text (letters_of mark.Unknown) ++ field 40)
