use Rattle.std.proofs.Common.{◌≡◌, ◌≤◌, ◌+◌, ◌-◌, true, cond, length, take}
use Rattle.play.proofs.fill.Given as goal

-- bytes come behind those that were there, and none once the input has ended
abbrev pub invariant-loop-input : goal.invariant-loop-input
invariant-loop-input g l =
    (l.have ≤ l.input.have) × (l.input.have ≤ length l.b) × (take l.have l.b ≡ take l.have l.fn.b)
    × (l.ended ≡ true → (l.input.have ≡ l.have) × (l.input.ended ≡ true))

-- a read brings a byte or is the last
abbrev pub decreases-loop-input : goal.decreases-loop-input
decreases-loop-input g l = cond l.input.ended 0 1 + (length l.initial.b - l.input.have)
