-- What the tests tell, and what passes them.
-- Assumes nothing.
use mathlib.Core.Path.{◌≡◌, refl, sym}
use mathlib.Core.Bool.{true, false, not, false≢true}
use Rattle.types.specs.declared.FileKind.{FileKind}
use Rattle.types.specs.declared.FileKind.TheVariants.{Conventional, Sequential}
use Rattle.types.specs.declared.Access.{Access}
use Rattle.types.specs.declared.Access.TheVariants as access
use Rattle.types.specs.declared.Outstanding.{Outstanding}
use Rattle.types.specs.declared.Outstanding.TheVariants.{Idle, Busy, Unknown}
use Rattle.types.specs.Predicates.{is_conventional, is_none, is_busy}

pub none_is : (a : Access) → is_none a ≡ true → a ≡ access.Nothing
none_is access.Nothing h = refl
none_is access.Read h = absurd (false≢true h)
none_is access.Write h = absurd (false≢true h)

pub some_is : (a : Access) → (a ≡ access.Nothing → ⊥) → not (is_none a) ≡ true
some_is access.Nothing h = absurd (h refl)
some_is access.Read h = refl
some_is access.Write h = refl

pub conventional-is : (k : FileKind) → is_conventional k ≡ true → k ≡ Conventional
conventional-is Conventional h = refl
conventional-is Sequential h = absurd (false≢true h)

pub idle_is : (o : Outstanding) → is_busy o ≡ false → o ≡ Idle
idle_is Idle h = refl
idle_is (Busy x) h = absurd (false≢true (sym h))
idle_is Unknown h = absurd (false≢true (sym h))
