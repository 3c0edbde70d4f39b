-- The rule of a table, by one test over the whole of it, computed entry after entry, and that of all eight, by the same test table after table.
use mathlib.Core.Path.{◌≡◌, ap, ◌∙◌, sym}
use mathlib.Core.Bool.{Bool, true, false, ◌&&◌}
use mathlib.Core.List.{List, [], ◌∷◌}
use Prim.Native.Nat.{ℕ, zero, suc, ◌+◌, ◌/◌, ◌%◌, ◌<◌}
use native.Mathlib.Nat.{add-zero, zero-add, add-suc, suc-add, zero-lt-suc, le_of_suc-le-suc, not-suc-le-zero}
use native.Mathlib.Omega.{arith}
use lib.Bits.{bit_xor, xor_zero_r}
use lib.Dec.{T, eqb, eqb→eq}
use lib.ListN.{length, get_or}
use Rattle.crc32.specs.Crc.{Ruled, AllRuled, crc_steps, crc_byte}
use Rattle.crc32.proofs.Linear.{by_table}

-- the test of a table: the entry at each place, counted from i, is f of that place
abbrev pub passes : (ℕ → ℕ) → ℕ → List ℕ → Bool
passes f i [] = true
passes f i (x ∷ xs) = eqb x (f i) && passes f (suc i) xs

and_both : (a b : Bool) → T (a && b) → T a × T b
and_both true b t = (tt, t)
and_both false b t = absurd t

entry : (f : ℕ → ℕ) (table : List ℕ) (i : ℕ) → T (passes f i table) → (k : ℕ) → k < length table → get_or table k 0 ≡ f (i + k)
entry f [] i p k h = absurd (not-suc-le-zero h)
entry f (x ∷ xs) i p zero h = eqb→eq x (f i) (and_both (eqb x (f i)) (passes f (suc i) xs) p).0 ∙ ap f (sym (add-zero i))
entry f (x ∷ xs) i p (suc k) h =
    entry f xs (suc i) (and_both (eqb x (f i)) (passes f (suc i) xs) p).1 k (le_of_suc-le-suc h) ∙ ap f (suc-add i k ∙ sym (add-suc i k))

-- carried to each entry of a table that has 256
at : (f : ℕ → ℕ) (table : List ℕ) → length table ≡ 256 → T (passes f 0 table) → (k : ℕ) → k < 256 → get_or table k 0 ≡ f k
at f table whole p k h = entry f table 0 p k (rw whole h) ∙ ap f (zero-add k)

-- of the first table f is eight one-bit steps
pub ruled : (table : List ℕ) → length table ≡ 256 → T (passes (crc_steps 8) 0 table) → Ruled table
ruled table whole p = record { entry = at (crc_steps 8) table whole p }

-- a zero byte more, by the first table: quicker to compute than eight one-bit steps
abbrev pub zero_more : List ℕ → ℕ → ℕ
zero_more first v = bit_xor (v / 256) (get_or first (v % 256) 0)

zero_more_lem : (first : List ℕ) → Ruled first → (v : ℕ) → zero_more first v ≡ crc_byte v 0
zero_more_lem first rule v =
    ap (λ (k : ℕ). bit_xor (v / 256) (get_or first (k % 256) 0)) (sym (xor_zero_r v)) ∙ by_table first v 0 rule (zero-lt-suc 255)

-- the test of the tables after x: each entry is that of the table before it after a zero byte more
abbrev pub chained : List ℕ → List ℕ → List (List ℕ) → Bool
chained first x [] = true
chained first x (y ∷ ys) = eqb (length y) 256 && (passes (λ k. zero_more first (get_or x k 0)) 0 y && chained first y ys)

-- the test of all of them
abbrev pub pass : List (List ℕ) → Bool
pass [] = false
pass (x ∷ xs) = passes (crc_steps 8) 0 x && chained x x xs

module _ (first : List ℕ) where
  -- what the test says of the next table, and of those after it
  record Told (x y : List ℕ) (ys : List (List ℕ)) : Type 0 where
    here : (k : ℕ) → k < 256 → get_or y k 0 ≡ zero_more first (get_or x k 0)
    others : T (chained first y ys)

  told : (x y : List ℕ) (ys : List (List ℕ)) → T (chained first x (y ∷ ys)) → Told x y ys
  told x y ys p =
      let asked : ℕ → ℕ = λ k. zero_more first (get_or x k 0) in
      let sized = and_both (eqb (length y) 256) (passes asked 0 y && chained first y ys) p in
      let both = and_both (passes asked 0 y) (chained first y ys) sized.1 in
      record { here = at asked y (eqb→eq (length y) 256 sized.0) both.0; others = both.1 }

  -- carried to each table
  chain : (x : List ℕ) (later : List (List ℕ)) → T (chained first x later)
      → (t k : ℕ) → t < length later → k < 256 → get_or (get_or later t []) k 0 ≡ zero_more first (get_or (get_or (x ∷ later) t []) k 0)
  chain x [] p t k ht hk = absurd (not-suc-le-zero ht)
  chain x (y ∷ ys) p zero k ht hk = (told x y ys p).here k hk
  chain x (y ∷ ys) p (suc t) k ht hk = chain y ys (told x y ys p).others t k (le_of_suc-le-suc ht) hk

-- eight tables that pass obey the rule
pub all_ruled : (tables : List (List ℕ)) → length tables ≡ 8 → length (get_or tables 0 []) ≡ 256 → T (pass tables) → AllRuled tables
all_ruled [] eight whole p = absurd p
all_ruled (x ∷ xs) eight whole p =
    let both = and_both (passes (crc_steps 8) 0 x) (chained x x xs) p in
    let rule = ruled x whole both.0 in
    record {
      first = rule;
      next = λ t k ht hk. chain x x xs both.1 t k (omega arith) hk ∙ zero_more_lem x rule (get_or (get_or (x ∷ xs) t []) k 0);
    }
