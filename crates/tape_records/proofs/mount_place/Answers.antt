use native.Mathlib.Omega.{arith}
use mathlib.Core.Path.{◌≡◌, ap, ◌∙◌}
use Prim.Native.Nat.{ℕ, ◌+◌, ◌-◌}
use lib.ListN.{length, take, drop, length-drop}
use lib.Seq.{take_all}
use Rattle.report.specs.Report.{zone_count}
use Rattle.tape_records.specs.Records.{report_start, report_length}
use Rattle.tape_records.proofs.mount_place.Goals as goal

pub returns : goal.returns
returns c =
    let b = c.args.b.now in
    let whole : take (length b - report_start) (drop report_start b) ≡ drop report_start b = take_all (length b - report_start) (drop report_start b) (omega (arith, length-drop report_start b)) in (
      ap (λ (n : ℕ). report_start + n) (c.report_length.ensures.0 ∙ ap report_length (c.zone_count.ensures ∙ ap zone_count whole)),
      omega (arith, c.report_length.ensures.1),
    )
