-- A number that lies in a list of bytes, and the bytes of a number.
use Rattle.std.specs.Prelude.{List, [], ◌∷◌, ℕ, zero, suc, ◌+◌, ◌*◌, ◌/◌, ◌%◌, get_or}

-- "little-endian": the number of the n bytes at `at`, the lowest first. A byte past the end counts as 0.
unfoldable pub le : ℕ → List ℕ → ℕ → ℕ
le zero b at = 0
le (suc n) b at = get_or b at 0 + 256 * le n b (at + 1)

-- the other way round: a number in n bytes. What doesn't fit into them is left out.
unfoldable pub little : ℕ → ℕ → List ℕ
little zero x = []
little (suc n) x = x % 256 ∷ little n (x / 256)
