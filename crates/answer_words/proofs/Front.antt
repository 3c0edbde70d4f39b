-- Words stored one by one from the first on stand in front of what was there.
-- Assumes nothing.
use Prim.Native.Nat.{ℕ, ◌+◌, ◌≤◌}
use native.Mathlib.Omega.{arith}
use mathlib.Core.Path.{◌≡◌, ◌∙◌, ap}
use mathlib.Core.List.{List, ◌++◌}
use lib.ListN.{length, drop}
use lib.Seq.{sets, sets-eq}
use Rattle.answer_words.specs.Answers.{written}

pub put_front : (w values : List ℕ) → length values ≤ length w → sets w 0 values ≡ written w values
unfolding written
put_front w values h =
    let from : 0 + length values ≡ length values = omega arith in
    sets-eq values w 0 (omega arith) ∙ ap (λ (k : ℕ). values ++ drop k w) from
