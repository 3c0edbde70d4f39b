-- The number that stands for each kind, condition, access, policy and command, wherever one is written as a number, and back; and that of
-- a zone's fault.
use Rattle.std.specs.Prelude.{ℕ, Bool, cond, eqb, ltb, Option, Some, None}
use Rattle.types.specs.declared.FileKind.{FileKind}
use Rattle.types.specs.declared.FileKind.TheVariants.{Conventional, Sequential}
use Rattle.types.specs.declared.Condition.{Condition}
use Rattle.types.specs.declared.Condition.TheVariants as condition
use Rattle.types.specs.declared.Access.{Access}
use Rattle.types.specs.declared.Access.TheVariants as access
use Rattle.types.specs.declared.ErrorPolicy.{ErrorPolicy}
use Rattle.types.specs.declared.ErrorPolicy.TheVariants.{RemountRo, ZoneRo, ZoneOffline, Repair}
use Rattle.types.specs.declared.CommandKind.{CommandKind}
use Rattle.types.specs.declared.CommandKind.TheVariants as command
use Rattle.types.specs.declared.ZoneFault.{ZoneFault}
use Rattle.types.specs.declared.ZoneFault.TheVariants as fault

-- 1 for yes, 0 for no
abbrev pub flag_code : Bool → ℕ
flag_code b = cond b 1 0

-- "kind byte 0 cnv or 1 seq"
abbrev pub kind_code : FileKind → ℕ
kind_code Conventional = 0
kind_code Sequential = 1

-- "a kind above 1 answers 1": the number is that of a kind
abbrev pub is_kind : ℕ → Bool
is_kind n = ltb n 2

-- and back, of such a number
abbrev pub kind_from : ℕ → FileKind
kind_from n = cond (eqb n 0) Conventional Sequential

-- from good to bad, as in "its condition may not be better than a seq row's (healthy, read-only, offline)"
abbrev pub condition_code : Condition → ℕ
condition_code condition.Healthy = 0
condition_code condition.ReadOnly = 1
condition_code condition.Offline = 2

-- "access (write, read, none)", from none up
abbrev pub access_code : Access → ℕ
access_code access.Nothing = 0
access_code access.Read = 1
access_code access.Write = 2

-- the rows of the recovery table, in its order
abbrev pub policy_code : ErrorPolicy → ℕ
policy_code RemountRo = 0
policy_code ZoneRo = 1
policy_code ZoneOffline = 2
policy_code Repair = 3

-- and back, of a number below 4
abbrev pub policy_from : ℕ → ErrorPolicy
policy_from n = cond (eqb n 0) RemountRo (cond (eqb n 1) ZoneRo (cond (eqb n 2) ZoneOffline Repair))

-- the letters R W Z F S of the tape, in this order, and 02's O and C
abbrev pub command_code : CommandKind → ℕ
command_code command.Read = 0
command_code command.Write = 1
command_code command.Reset = 2
command_code command.Finish = 3
command_code command.Flush = 4
command_code command.Open = 5
command_code command.Close = 6

-- how many commands there are
abbrev pub commands : ℕ
commands = 7

-- and back, of a number below that
abbrev pub command_from : ℕ → CommandKind
command_from n =
    cond (eqb n 0) command.Read
    (cond (eqb n 1) command.Write (cond (eqb n 2) command.Reset (cond (eqb n 3) command.Finish
    (cond (eqb n 4) command.Flush (cond (eqb n 5) command.Open command.Close)))))

-- 02: "a reason, the first of: 1 start, 2 length, 3 capacity (also a conventional one's), 4 end, 5 type, 6 condition, 7 pointer", and for a
-- completion's record "8 not this file's zone, 9 a better condition"; 0 where there is none to name
abbrev pub fault_code : Option ZoneFault → ℕ
fault_code None = 0
fault_code (Some fault.Start) = 1
fault_code (Some fault.Length) = 2
fault_code (Some fault.Capacity) = 3
fault_code (Some fault.End) = 4
fault_code (Some fault.Type) = 5
fault_code (Some fault.Condition) = 6
fault_code (Some fault.Pointer) = 7
fault_code (Some fault.OtherZone) = 8
fault_code (Some fault.BetterCondition) = 9
