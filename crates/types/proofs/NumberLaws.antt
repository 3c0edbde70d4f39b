-- No refusal has the number 0, which is that of what is not refused.
-- Assumes nothing.
use Rattle.std.specs.Prelude.{Ok, Err}
use Prim.Native.Nat.{ℕ, ◌<◌}
use native.Mathlib.Omega.{arith}
use mathlib.Core.Path.{◌≡◌, refl}
use Rattle.types.specs.declared.Refusal.{Refusal}
use Rattle.types.specs.declared.Refusal.TheVariants.{NoFile, Busy, ReadOnlyMount, Denied, BeyondCapacity, Misplaced, Failed, NothingOutstanding, BadRecord, Impossible, BadBlock, SuperLength, SuperMagic, SuperChecksum, SuperFeatures, SuperOwner, SuperTail, BadOptions, BadReport, BadZone, TooFewRows, SuperPerm, LabelLength, OpenLimit, ActiveLimit, NotOpen, TooManyOpens}
use Rattle.types.specs.Answers.{MountAnswer}
use Rattle.types.specs.Numbers.{refusal_number, mount_number}

refusal_positive : (x : Refusal) → 0 < refusal_number x
refusal_positive NoFile = omega arith
refusal_positive Busy = omega arith
refusal_positive ReadOnlyMount = omega arith
refusal_positive Denied = omega arith
refusal_positive BeyondCapacity = omega arith
refusal_positive Misplaced = omega arith
refusal_positive (Failed size) = omega arith
refusal_positive NothingOutstanding = omega arith
refusal_positive (BadRecord fault) = omega arith
refusal_positive Impossible = omega arith
refusal_positive BadBlock = omega arith
refusal_positive SuperLength = omega arith
refusal_positive SuperMagic = omega arith
refusal_positive SuperChecksum = omega arith
refusal_positive SuperFeatures = omega arith
refusal_positive SuperOwner = omega arith
refusal_positive SuperTail = omega arith
refusal_positive BadOptions = omega arith
refusal_positive BadReport = omega arith
refusal_positive (BadZone zone fault) = omega arith
refusal_positive TooFewRows = omega arith
refusal_positive SuperPerm = omega arith
refusal_positive LabelLength = omega arith
refusal_positive OpenLimit = omega arith
refusal_positive ActiveLimit = omega arith
refusal_positive NotOpen = omega arith
refusal_positive TooManyOpens = omega arith

-- so a mount answered 0 is not refused
pub mounted-zero : (a : MountAnswer) → mount_number a ≡ 0 → (cnvs : ℕ) × ((seqs : ℕ) × (a ≡ Ok (cnvs, seqs)))
mounted-zero (Err x) e = absurd (omega (arith, refusal_positive x))
mounted-zero (Ok (cnvs, seqs)) e = (cnvs, (seqs, refl))
