-- The bytes taken one after the other come to the first fault in byte order, and write the rows of the files that are finished before it.
-- Assumes nothing.
use Prim.Native.Nat.{ℕ, zero, suc, ◌+◌, ◌-◌, ◌/◌, ◌≤◌, min}
use native.Mathlib.Omega.{arith}
use mathlib.Core.Path.{◌≡◌, refl, ap}
use mathlib.Core.List.{List}
use borrow.Author.Tests.{leb-true, leb-false}
use lib.Dec.{leb}
use lib.ListN.{length}
use Rattle.types.proofs.Tests.{cases}
use Rattle.zones.specs.Zone.{zone_bytes}
use Rattle.report.specs.Report.{header_bytes, zone_count, capacity_given, good_fields, zones_from}
use Rattle.intake.specs.declared.Rule.{Rule}
use Rattle.receiving.specs.Bytes.{fed}
use Rattle.first_fault.specs.FirstFault.{whole_zones}
use Rattle.first_fault.specs.Claims.{untaken, FirstFault}
use Rattle.first_fault.proofs.Zones.{zones_come}
use Rattle.first_fault.proofs.Arrived.{Arrived, short_come, bad_come}
use Rattle.first_fault.proofs.GoodHeader.{good_come}

-- no more zones are whole than are counted
from_length : (n : ℕ) (b : List ℕ) (i : ℕ) → length (zones_from n b i) ≡ n
unfolding zones_from
from_length zero b i = refl
from_length (suc n) b i = ap suc (from_length n b (i + 1))

whole_few : (b : List ℕ) → length (whole_zones b) ≤ zone_count b
unfolding whole_zones
whole_few b = omega (arith, from_length (min (zone_count b) ((length b - header_bytes) / zone_bytes)) b 0)

pub bytes_come : (r : Rule) (b cnv seq : List ℕ) → Arrived r b cnv seq (fed r (untaken cnv seq) b)
bytes_come r b cnv seq =
    cases (leb header_bytes (length b))
    (λ there.
    let h = leb-true header_bytes (length b) there in
    cases (good_fields b)
    (λ good. good_come r b cnv seq h good (zones_come r (zone_count b) (capacity_given b) cnv seq (whole_zones b) (whole_few b)))
    (bad_come r b cnv seq h))
    (λ less. short_come r b cnv seq (leb-false header_bytes (length b) less))

pub first_fault_lem : (r : Rule) (b cnv seq : List ℕ) → FirstFault r b cnv seq
first_fault_lem r b cnv seq =
    let a = bytes_come r b cnv seq in
    record { check = a.check; ends = a.ends; cnvs = a.cnvs; seqs = a.seqs }
