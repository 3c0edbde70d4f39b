-- What moves is no read, and neither an open nor a close. Kinds of commands are told apart here and nowhere above.
-- Assumes nothing.
use mathlib.Core.Bool.{true, false}
use mathlib.Core.Path.{◌≡◌, refl}
use Rattle.types.specs.declared.CommandKind.{CommandKind}
use Rattle.types.specs.declared.CommandKind.TheVariants as kind
use Rattle.types.specs.declared.Movement.TheVariants.{Stays, Advances}
use Rattle.types.specs.Commands.{movement_of, is_read, opens_or_closes}

pub read_stays : (k : CommandKind) → is_read k ≡ true → movement_of k ≡ Stays
read_stays kind.Read e = refl
read_stays kind.Write e = cc
read_stays kind.Reset e = cc
read_stays kind.Finish e = cc
read_stays kind.Flush e = refl
read_stays kind.Open e = refl
read_stays kind.Close e = refl

pub opening_stays : (k : CommandKind) → opens_or_closes k ≡ true → movement_of k ≡ Stays
opening_stays kind.Read e = refl
opening_stays kind.Write e = cc
opening_stays kind.Reset e = cc
opening_stays kind.Finish e = cc
opening_stays kind.Flush e = refl
opening_stays kind.Open e = refl
opening_stays kind.Close e = refl

pub advances_only : (k : CommandKind) → movement_of k ≡ Advances → opens_or_closes k ≡ false
advances_only kind.Read e = refl
advances_only kind.Write e = refl
advances_only kind.Reset e = refl
advances_only kind.Finish e = refl
advances_only kind.Flush e = refl
advances_only kind.Open e = cc
advances_only kind.Close e = cc
