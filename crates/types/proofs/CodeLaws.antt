-- Codes, there and back.
-- Assumes nothing.
use Prim.Native.Nat.{ℕ, zero, suc, ◌<◌}
use native.Mathlib.Omega.{arith}
use mathlib.Core.Bool.{true}
use borrow.Author.Tests.{ltb-true}
use mathlib.Core.Path.{◌≡◌, refl}
use lib.Dec.{lit<}
use Rattle.types.specs.declared.FileKind.{FileKind}
use Rattle.types.specs.declared.FileKind.TheVariants.{Conventional, Sequential}
use Rattle.types.specs.declared.ErrorPolicy.{ErrorPolicy}
use Rattle.types.specs.declared.ErrorPolicy.TheVariants.{RemountRo, ZoneRo, ZoneOffline, Repair}
use Rattle.types.specs.declared.CommandKind.{CommandKind}
use Rattle.types.specs.declared.CommandKind.TheVariants as command
use Rattle.types.specs.Codes.{kind_code, is_kind, kind_from, policy_code, policy_from, commands, command_code, command_from}

pub kind_back : (k : FileKind) → kind_from (kind_code k) ≡ k
kind_back Conventional = refl
kind_back Sequential = refl

-- and of a number that is a kind's, there
pub kind_there : (n : ℕ) → is_kind n ≡ true → kind_code (kind_from n) ≡ n
kind_there zero h = refl
kind_there (suc zero) h = refl
kind_there (suc (suc n)) h = absurd (omega (arith, ltb-true))

pub policy_back : (p : ErrorPolicy) → policy_from (policy_code p) ≡ p
policy_back RemountRo = refl
policy_back ZoneRo = refl
policy_back ZoneOffline = refl
policy_back Repair = refl

pub command_back : (k : CommandKind) → command_from (command_code k) ≡ k
command_back command.Read = refl
command_back command.Write = refl
command_back command.Reset = refl
command_back command.Finish = refl
command_back command.Flush = refl
command_back command.Open = refl
command_back command.Close = refl

pub command_small : (k : CommandKind) → command_code k < commands
command_small command.Read = lit< tt
command_small command.Write = lit< tt
command_small command.Reset = lit< tt
command_small command.Finish = lit< tt
command_small command.Flush = lit< tt
command_small command.Open = lit< tt
command_small command.Close = lit< tt
