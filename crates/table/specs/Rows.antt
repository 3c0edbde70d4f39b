-- A row in the words of a lent table: "start, capacity in bytes, size, condition, access", and since 02 the command that its file has
-- outstanding, and how many opens for writing it has. Row i is the words from i * row_width on.
use Rattle.std.specs.Prelude.{ℕ, ◌+◌, ◌-◌, ◌*◌, ◌/◌, List, [], ◌∷◌, cond, get_or, eqb, leb, Option, Result, Ok, Err, Some, None}
use Rattle.std.proofs.lemmas.List.Edits.{sets}
use Rattle.types.specs.declared.Row.{Row}
use Rattle.types.specs.declared.Command.{Command}
use Rattle.types.specs.declared.Outstanding.{Outstanding}
use Rattle.types.specs.declared.Outstanding.TheVariants.{Idle, Busy, Unknown}
use Rattle.types.specs.declared.FileKind.{FileKind}
use Rattle.types.specs.declared.FileKind.TheVariants.{Conventional, Sequential}
use Rattle.types.specs.Answers.{Store}
use Rattle.types.specs.declared.Condition.{Condition}
use Rattle.types.specs.declared.Condition.TheVariants as condition
use Rattle.types.specs.declared.Access.{Access}
use Rattle.types.specs.declared.Access.TheVariants as access
use Rattle.types.specs.declared.Refusal.TheVariants as refusal
use Rattle.types.specs.Codes.{condition_code, access_code, commands, command_code, command_from}
use Rattle.types.specs.Numbers.{refusal_number}

-- the words of a row
abbrev pub row_width : ℕ
row_width = 9

-- the rows that so many words hold
abbrev pub rows_lent : ℕ → ℕ
rows_lent words = words / row_width

-- what is held: 0 for nothing, else 1 + the command's code. A code that is no command's is never stored; so that it has words all the same, it is
-- given the first such code
abbrev pub held_code : Outstanding → ℕ
held_code Idle = 0
held_code (Busy c) = 1 + command_code c.kind
held_code Unknown = 1 + commands

-- its byte address and its byte length: 0 where nothing is held
abbrev pub held_address : Outstanding → ℕ
held_address Idle = 0
held_address (Busy c) = c.address
held_address Unknown = 0

abbrev pub held_length : Outstanding → ℕ
held_length Idle = 0
held_length (Busy c) = c.length
held_length Unknown = 0

-- a row's words; 02: "The held command moves from the mount into the row", and "opens in a row"
abbrev pub row_words : Row → List ℕ
row_words r =
    r.start ∷ r.capacity ∷ r.size ∷ condition_code r.condition ∷ access_code r.access
    ∷ held_code r.outstanding ∷ held_address r.outstanding ∷ held_length r.outstanding
    ∷ r.opens ∷ []

-- the condition of this code, or none
abbrev pub condition_read : ℕ → Option Condition
condition_read n =
    cond (eqb n 0) (Some condition.Healthy)
    (cond (eqb n 1) (Some condition.ReadOnly) (cond (eqb n 2) (Some condition.Offline) None))

-- the access of this code, or none
abbrev pub access_read : ℕ → Option Access
access_read n =
    cond (eqb n 0) (Some access.Nothing)
    (cond (eqb n 1) (Some access.Read) (cond (eqb n 2) (Some access.Write) None))

-- what is outstanding, by the three words of it; where nothing is held the last two aren't looked at
abbrev pub held_read : ℕ → ℕ → ℕ → Outstanding
held_read code address length =
    cond (eqb code 0) Idle
    (cond (leb code commands) (Busy (record { kind = command_from (code - 1); address = address; length = length })) Unknown)

-- what a row's words say: a row, or that the code of its condition or access is none of the codes, and what is outstanding there
abbrev pub Slot : Type 0
Slot = Result Row Outstanding

-- codes of condition or access that no row has are an impossible row; what is outstanding on it is told all the same, as 8 comes before 10
abbrev pub slot_with : ℕ → ℕ → ℕ → Option Condition → Option Access → Outstanding → ℕ → Slot
slot_with s c z (Some k) (Some a) o n =
    Ok (record { start = s; capacity = c; size = z; condition = k; access = a; outstanding = o; opens = n })
slot_with s c z (Some k) None o n = Err o
slot_with s c z None a o n = Err o

abbrev pub slot_of : ℕ → ℕ → ℕ → ℕ → ℕ → Outstanding → ℕ → Slot
slot_of s c z k a o n = slot_with s c z (condition_read k) (access_read a) o n

abbrev pub outstanding_in : Slot → Outstanding
outstanding_in (Ok r) = r.outstanding
outstanding_in (Err o) = o

-- word k of row i
abbrev pub word_at : List ℕ → ℕ → ℕ → ℕ
word_at t i k = get_or t (i * row_width + k) 0

-- row i of a table
unfoldable pub row_at : List ℕ → ℕ → Slot
row_at t i =
    slot_of (word_at t i 0) (word_at t i 1) (word_at t i 2) (word_at t i 3) (word_at t i 4)
    (held_read (word_at t i 5) (word_at t i 6) (word_at t i 7)) (word_at t i 8)

-- the table with a row at i
unfoldable pub set_row : List ℕ → ℕ → Row → List ℕ
set_row t i r = sets t (i * row_width) (row_words r)

-- the table of a kind once this was stored: a row goes into the table of its file's kind
abbrev pub stored : FileKind → Store → List ℕ → List ℕ
stored k None t = t
stored Conventional (Some (Conventional, i, r)) t = set_row t i r
stored Conventional (Some (Sequential, i, r)) t = t
stored Sequential (Some (Conventional, i, r)) t = t
stored Sequential (Some (Sequential, i, r)) t = set_row t i r

-- a slot in numbers: 10, "mount value or tables impossible", or 0 with the row's values
abbrev pub slot_number : Slot → ℕ
slot_number (Ok r) = 0
slot_number (Err o) = refusal_number refusal.Impossible

abbrev pub slot_values : Slot → List ℕ
slot_values (Ok r) = row_words r
slot_values (Err o) = []

-- "Healthy: .. access write"; a mount leaves nothing outstanding, and no file open
abbrev pub healthy_row : ℕ → ℕ → ℕ → Row
healthy_row s c z =
    record { start = s; capacity = c; size = z; condition = condition.Healthy; access = access.Write; outstanding = Idle; opens = 0 }

-- "kept as offline, size 0, access none"
abbrev pub offline_row : ℕ → ℕ → Row
offline_row s c =
    record { start = s; capacity = c; size = 0; condition = condition.Offline; access = access.Nothing; outstanding = Idle; opens = 0 }

-- the row with another size
abbrev pub with_size : Row → ℕ → Row
with_size r z =
    record {
      start = r.start;
      capacity = r.capacity;
      size = z;
      condition = r.condition;
      access = r.access;
      outstanding = r.outstanding;
      opens = r.opens;
    }

-- the row with the size, condition and access that a recovery gives it
abbrev pub recovered_to : Row → ℕ → Condition → Access → Row
recovered_to r z k a =
    record {
      start = r.start;
      capacity = r.capacity;
      size = z;
      condition = k;
      access = a;
      outstanding = r.outstanding;
      opens = r.opens;
    }

-- the row with something else outstanding
abbrev pub with_outstanding : Row → Outstanding → Row
with_outstanding r o =
    record {
      start = r.start;
      capacity = r.capacity;
      size = r.size;
      condition = r.condition;
      access = r.access;
      outstanding = o;
      opens = r.opens;
    }

-- the row with another number of opens
abbrev pub with_opens : Row → ℕ → Row
with_opens r n =
    record {
      start = r.start;
      capacity = r.capacity;
      size = r.size;
      condition = r.condition;
      access = r.access;
      outstanding = r.outstanding;
      opens = n;
    }

-- 02: "each file may have one outstanding"
abbrev pub holding : Row → Command → Row
holding r c = with_outstanding r (Busy c)

-- "command cleared"
abbrev pub cleared : Row → Row
cleared r = with_outstanding r Idle
