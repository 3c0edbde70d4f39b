-- What a command that is done moves: the size of its file ("Success") and the pointer of its zone ("Disk rules"); and whether it is a read, an
-- open or a close.
use Rattle.std.specs.Prelude.{Bool, true, false}
use Rattle.types.specs.declared.CommandKind.{CommandKind}
use Rattle.types.specs.declared.CommandKind.TheVariants as command
use Rattle.types.specs.declared.Movement.{Movement}
use Rattle.types.specs.declared.Movement.TheVariants.{Stays, Advances, ToStart, ToEnd}

-- "a seq write adds its length to size, reset makes 0, finish capacity"; on the disk a write "moves it by the length; reset and finish move
-- it to start and start+capacity"; 02: "On the disk open and close move no pointer"
abbrev pub movement_of : CommandKind → Movement
movement_of command.Read = Stays
movement_of command.Write = Advances
movement_of command.Reset = ToStart
movement_of command.Finish = ToEnd
movement_of command.Flush = Stays
movement_of command.Open = Stays
movement_of command.Close = Stays

-- "a failed read", "a good read"
abbrev pub is_read : CommandKind → Bool
is_read command.Read = true
is_read command.Write = false
is_read command.Reset = false
is_read command.Finish = false
is_read command.Flush = false
is_read command.Open = false
is_read command.Close = false

-- 02: "a failed open"
abbrev pub is_opening : CommandKind → Bool
is_opening command.Read = false
is_opening command.Write = false
is_opening command.Reset = false
is_opening command.Finish = false
is_opening command.Flush = false
is_opening command.Open = true
is_opening command.Close = false

-- 02: "On the disk open and close ..": either of them
abbrev pub opens_or_closes : CommandKind → Bool
opens_or_closes command.Read = false
opens_or_closes command.Write = false
opens_or_closes command.Reset = false
opens_or_closes command.Finish = false
opens_or_closes command.Flush = false
opens_or_closes command.Open = true
opens_or_closes command.Close = true
