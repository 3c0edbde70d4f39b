-- What a call tells that was not refused: functions that change a row's opens ask for it. No outcome is defined here.
use Rattle.std.specs.Prelude.{◌<◌, true, ◌≡◌, Ok, Err}
use Rattle.types.specs.declared.Row.{Row}
use Rattle.types.specs.declared.Call.{Call}
use Rattle.types.specs.declared.FileKind.{FileKind}
use Rattle.types.specs.Answers.{Answer}
use Rattle.types.specs.declared.Granted.TheVariants.{Done, Issue}
use Rattle.decision.specs.Decision.{most_opens, opens_file}

-- one open more never wraps
abbrev pub Countable : FileKind → Call → Row → Type 0
Countable k x r = opens_file k x ≡ true → r.opens < most_opens

abbrev pub Settles : FileKind → Call → Row → Answer → Type 0
Settles k x r (Err y) = Unit
Settles k x r (Ok (Done count)) = Countable k x r
Settles k x r (Ok (Issue c)) = Countable k x r
