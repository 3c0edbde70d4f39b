-- Text as the bytes that a program holds for it: in ASCII, two texts that are the same, and numbers in decimal.
use Rattle.std.specs.Prelude.{ℕ, zero, suc, ◌+◌, ◌/◌, ◌%◌, Bool, true, false, cond, ◌&&◌, List, [], ◌∷◌, ◌++◌, ltb, eqb}
use Prim.Native.Char.{code}
use Prim.Native.String.{String, [] as noText, ◌∷◌ as ◌before◌}

-- the characters' codes, in order: the bytes of a text in ASCII
abbrev pub ascii : String → List ℕ
ascii noText = []
ascii (c before text) = code c ∷ ascii text

-- two texts are the same, byte for byte
unfoldable pub same : List ℕ → List ℕ → Bool
same [] [] = true
same [] (y ∷ ys) = false
same (x ∷ xs) [] = false
same (x ∷ xs) (y ∷ ys) = eqb x y && same xs ys

-- ---- numbers

-- the byte of a digit
abbrev pub digit_byte : ℕ → ℕ
digit_byte d = code "0" + d

-- a number's digits, at most so many, the highest first: those of a tenth of it, and the last
unfoldable pub digits_of : ℕ → ℕ → List ℕ
digits_of zero n = []
digits_of (suc most) n = cond (ltb n 10) (digit_byte n ∷ []) (digits_of most (n / 10) ++ digit_byte (n % 10) ∷ [])

-- "a decimal without a leading zero": it has no more digits than one more than the number
abbrev pub decimal : ℕ → List ℕ
decimal n = digits_of (suc n) n

-- a space and a number
abbrev pub field : ℕ → List ℕ
field n = code " " ∷ decimal n

abbrev pub fields : List ℕ → List ℕ
fields [] = []
fields (n ∷ ns) = field n ++ fields ns
