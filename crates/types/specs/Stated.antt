-- Tables of cases that are computed: what the definitions give, and what is stated of it.
use Rattle.std.specs.Prelude.{List, map, ◌≡◌, ℕ}

pub record Case : Type 0 where
  pub given : List ℕ
  pub stated : List ℕ

abbrev pub is : List ℕ → List ℕ → Case
is given stated = record { given = given; stated = stated }

-- each case gives what is stated
abbrev pub AsStated : List Case → Type 0
AsStated table = map (λ (c : Case). c.given) table ≡ map (λ (c : Case). c.stated) table
