-- A header or zone that is read where its bytes were collected, is the one that they stood for in the report.
-- Assumes nothing.
use Prim.Native.Nat.{ℕ, zero, suc, ◌+◌, ◌≤◌, ◌<◌}
use native.Mathlib.Omega.{arith}
use native.Mathlib.Nat.{add-zero}
use mathlib.Core.Path.{◌≡◌, refl, ap, ◌∙◌}
use mathlib.Core.Bool.{Bool}
use mathlib.Core.List.{List}
use lib.ListN.{length, get_or, take, drop, length-drop, length-replicate, get_or-append}
use lib.Seq.{sets, sets-eq, length-take-le, get_or-take, get_or-drop}
use Rattle.wire.specs.Le.{le}
use Rattle.zones.specs.Zone.{zone_bytes, zone_at}
use Rattle.report.specs.Report.{header_bytes}
use Rattle.intake.specs.declared.Intake.{Intake}
use Rattle.intake.specs.Steps.{header_taken}
use Rattle.receiving.specs.Bytes.{no_bytes}

-- so many bytes from a place on, put over as many of the zeros
pub part_shows : (b : List ℕ) (at n i : ℕ) → n ≤ zone_bytes → at + n ≤ length b → i < n → get_or (sets no_bytes 0 (take n (drop at b))) i 0 ≡ get_or b (at + i) 0
part_shows b at n i few fits h =
    let long : length (take n (drop at b)) ≡ n = length-take-le n (drop at b) (omega (arith, length-drop at b)) in
    ap (λ (l : List ℕ). get_or l i 0) (sets-eq (take n (drop at b)) no_bytes 0 (omega (arith, length-replicate {A = ℕ} zone_bytes 0)))
    ∙ get_or-append (take n (drop at b)) _ 0 i (omega arith)
    ∙ get_or-take n (drop at b) i 0 h
    ∙ get_or-drop at b i 0

-- a number in them
numbers : (n : ℕ) (part b : List ℕ) (at m k : ℕ) → ((i : ℕ) → i < m → get_or part i 0 ≡ get_or b (at + i) 0) → k + n ≤ m → le n part k ≡ le n b (at + k)
unfolding le
numbers zero part b at m k shows h = refl
numbers (suc n) part b at m k shows h =
    let there : at + (k + 1) ≡ at + k + 1 = omega arith in
    let first = shows k (omega arith) in
    let rest : le n part (k + 1) ≡ le n b (at + k + 1) = numbers n part b at m (k + 1) shows (omega arith) ∙ ap (le n b) there in
    cc

pub zone-shows : (given : Bool) (part b : List ℕ) (at : ℕ) → ((i : ℕ) → i < zone_bytes → get_or part i 0 ≡ get_or b (at + i) 0) → zone_at given part 0 ≡ zone_at given b at
zone-shows given part b at shows =
    let start : le 8 part 0 ≡ le 8 b at = numbers 8 part b at 64 0 shows (omega arith) ∙ ap (le 8 b) (add-zero at) in
    let long = numbers 8 part b at 64 8 shows (omega arith) in
    let pointer = numbers 8 part b at 64 16 shows (omega arith) in
    let capacity = numbers 8 part b at 64 32 shows (omega arith) in
    let kind = shows 24 (omega arith) in
    let condition = shows 25 (omega arith) in
    cc

pub header-shows : (i : Intake) (part b : List ℕ) → ((k : ℕ) → k < header_bytes → get_or part k 0 ≡ get_or b (0 + k) 0) → header_taken i part ≡ header_taken i b
unfolding header_taken
header-shows i part b shows =
    let sector : le 8 part 0 ≡ le 8 b 0 = numbers 8 part b 0 16 0 shows (omega arith) in
    let count : le 4 part 8 ≡ le 4 b 8 = numbers 4 part b 0 16 8 shows (omega arith) in
    let flags : le 4 part 12 ≡ le 4 b 12 = numbers 4 part b 0 16 12 shows (omega arith) in
    rw (sector, count, flags)
