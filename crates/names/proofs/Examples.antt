-- "`seq/07` and `seq/1 ` match nothing"; nor does `seq/`. `seq/10` is the name of sequential file 10.
-- Assumes nothing.
use Rattle.std.specs.Prelude.{Some, None}
use Prim.Native.Nat.{ℕ, ◌<◌}
use native.Mathlib.Omega.{arith}
use mathlib.Core.Path.{◌≡◌, refl, sym, ap, ◌∙◌}
use mathlib.Core.List.{List, [], ◌∷◌}
use lib.ListN.{get_or, drop}
use Rattle.types.specs.declared.Volume.{Volume}
use Rattle.types.specs.declared.FileKind.TheVariants.{Sequential}
use Rattle.text.specs.Text.{decimal, digits_of}
use Rattle.text.proofs.Decimal.{decimal_digit, decimal_first}
use Rattle.names.specs.Names.{name_of, named}
use Rattle.names.proofs.Reading.{not_empty}
use Rattle.names.proofs.Naming.{name_digits, unnamed, named_file}

-- the name `seq/` with these bytes behind it
abbrev sequential : List ℕ → List ℕ
sequential rest = 115 ∷ 101 ∷ 113 ∷ 47 ∷ rest

-- where they are the decimal of no number, it names nothing
no_decimal : (v : Volume) (rest : List ℕ) → ((n : ℕ) → rest ≡ decimal n → ⊥) → named v (sequential rest) ≡ None
no_decimal v rest h = unnamed v (sequential rest) (λ k n l e. h n (ap (drop 4) e ∙ name_digits k n))

pub leading_zero : (v : Volume) → named v (sequential (48 ∷ 55 ∷ [])) ≡ None
leading_zero v =
    no_decimal v (48 ∷ 55 ∷ [])
    (λ n e. decimal_first n (rw (← e) (omega arith)) (sym (ap (λ (b : List ℕ). get_or b 0 0) e)))

pub trailing_space : (v : Volume) → named v (sequential (49 ∷ 32 ∷ [])) ≡ None
trailing_space v =
    no_decimal v (49 ∷ 32 ∷ [])
    (λ n e. omega (arith, rw (← e) at (decimal_digit n 1 (rw (← e) (omega arith))).low))

pub empty_number : (v : Volume) → named v (sequential []) ≡ None
empty_number v = no_decimal v [] (not_empty [] refl)

pub sequential_ten : (v : Volume) → 10 < v.sequential → named v (sequential (49 ∷ 48 ∷ [])) ≡ Some (Sequential, 10)
unfolding name_of digits_of
sequential_ten v h = named_file v (sequential (49 ∷ 48 ∷ [])) Sequential 10 refl h
