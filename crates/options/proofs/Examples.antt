-- Worked examples of texts and their options, computed from the definitions.
-- Assumes nothing.
use Rattle.std.specs.Prelude.{Some, None}
use Prim.Native.Nat.{ℕ}
use mathlib.Core.Bool.{Bool, true, false}
use mathlib.Core.Path.{◌≡◌, refl}
use mathlib.Core.List.{List, [], ◌∷◌, ◌++◌, map}
use lib.ListN.{replicate}
use Rattle.types.specs.declared.ErrorPolicy.{ErrorPolicy}
use Rattle.types.specs.declared.ErrorPolicy.TheVariants.{RemountRo, ZoneRo, ZoneOffline, Repair}
use Rattle.options.specs.Options.{Options}
use Rattle.text.specs.Text.{ascii, same}
use Rattle.options.specs.Options.{comma, split, skip_empty, piece_of, options_of}

record Example : Type 0 where
  text : List ℕ
  answer : Options

-- a good text: its policy, and whether it asks for opens by hand
abbrev good : ErrorPolicy → Bool → Options
good policy explicit = Some (record { policy = policy; explicit = explicit })

abbrev examples : List Example
examples =
    record { text = []; answer = good RemountRo false }
    ∷ record { text = ascii ",,"; answer = good RemountRo false }
    ∷ record { text = ascii "errors=remount-ro"; answer = good RemountRo false }
    ∷ record { text = ascii "errors=zone-offline"; answer = good ZoneOffline false }
    ∷ record { text = ascii "errors=repair,errors=zone-ro"; answer = good ZoneRo false }
    ∷ record { text = ascii ",errors=zone-ro,,errors=repair,"; answer = good Repair false }
    ∷ record { text = ascii "errors=repair "; answer = None }
    ∷ record { text = ascii "Errors=repair"; answer = None }
    ∷ record { text = ascii "errors="; answer = None }
    ∷ record { text = ascii "repair"; answer = None }
    ∷ record { text = ascii "errors=repai"; answer = None }
    ∷ record { text = ascii "quota,errors=repair"; answer = None }
    ∷ record { text = replicate 242 comma ++ ascii "errors=repair"; answer = good Repair false }
    ∷ record { text = replicate 243 comma ++ ascii "errors=repair"; answer = None }
    ∷ record { text = ascii "explicit-open"; answer = good RemountRo true }
    ∷ record { text = ascii ",explicit-open,,explicit-open,"; answer = good RemountRo true }
    ∷ record { text = ascii "explicit-open,errors=repair"; answer = good Repair true }
    ∷ record { text = ascii "errors=zone-ro,explicit-open"; answer = good ZoneRo true }
    ∷ record { text = ascii "errors=repair,explicit-open,errors=zone-offline,explicit-open,errors=zone-ro"; answer = good ZoneRo true }
    ∷ record { text = ascii "explicit-opem"; answer = None }
    ∷ record { text = ascii "Explicit-open"; answer = None }
    ∷ record { text = ascii "explicit_open"; answer = None }
    ∷ record { text = ascii "explicit-ope"; answer = None }
    ∷ record { text = ascii "explicit"; answer = None }
    ∷ record { text = ascii "explicit-open "; answer = None }
    ∷ record { text = ascii " explicit-open"; answer = None }
    ∷ record { text = ascii "explicit-open=1"; answer = None }
    ∷ record { text = ascii "errors=explicit-open"; answer = None }
    ∷ record { text = ascii "explicit-open,quota"; answer = None }
    ∷ record { text = ascii "explicit-open,errors=repair,errors="; answer = None }
    ∷ record { text = ascii "explicit-openerrors=repair"; answer = None }
    ∷ record { text = ascii "errors=zone-offro"; answer = None }
    ∷ record { text = ascii "errors=repairount-ro"; answer = None }
    ∷ record { text = ascii "errors=zone-,errors=zone-ro"; answer = None }
    ∷ record { text = ascii "errors=repair" ++ (0 ∷ []); answer = None }
    ∷ record { text = ascii "errors=repair," ++ (200 ∷ []); answer = None }
    ∷ []

-- each text has the answer that stands beside it
pub as_worked : map (λ e. options_of e.text) examples ≡ map (λ e. e.answer) examples
unfolding split skip_empty same piece_of options_of
as_worked = refl
