-- The recovery table: "The table is one four-by-three grid, taken as a value."
use Rattle.std.specs.Prelude.{List, [], ◌∷◌, get_or}
use Rattle.types.specs.declared.ErrorPolicy.{ErrorPolicy}
use Rattle.types.specs.declared.Condition.{Condition}
use Rattle.types.specs.Codes.{policy_code, condition_code}
use Rattle.recovery.specs.declared.grid.Rule.{Rule}
use Rattle.recovery.specs.declared.grid.SizeRule.{SizeRule}
use Rattle.recovery.specs.declared.grid.SizeRule.TheVariants.{Fixed, AsIs, Zero}
use Rattle.recovery.specs.declared.grid.AccessRule.{AccessRule}
use Rattle.recovery.specs.declared.grid.AccessRule.TheVariants.{Unchanged, Read, Nothing}

abbrev pub rule : SizeRule → AccessRule → Rule
rule s a = record { size = s; access = a }

-- "option by condition": the rows remount-ro, zone-ro, zone-offline, repair, and in each healthy, read-only, offline
abbrev pub recovery_grid : List (List Rule)
recovery_grid =
    (rule Fixed Unchanged ∷ rule AsIs Read ∷ rule Zero Nothing ∷ [])
    ∷ (rule Fixed Read ∷ rule AsIs Read ∷ rule Zero Nothing ∷ [])
    ∷ (rule Zero Nothing ∷ rule Zero Nothing ∷ rule Zero Nothing ∷ [])
    ∷ (rule Fixed Unchanged ∷ rule AsIs Read ∷ rule Zero Nothing ∷ [])
    ∷ []

-- the grid's element for an option and a condition
abbrev pub rule_of : List (List Rule) → ErrorPolicy → Condition → Rule
rule_of grid p k = get_or (get_or grid (policy_code p) []) (condition_code k) (rule Fixed Unchanged)
