-- What the types of its fields say of a volume: numbers of 32 bits, and a uuid of sixteen bytes.
-- Assumes nothing.
use Prim.Native.Nat.{ℕ, ◌^◌, ◌<◌}
use mathlib.Core.Path.{◌≡◌}
use lib.ListN.{length, get_or}
use Rattle.types.specs.declared.Volume.{Volume}

pub record BoundedVolume (v : Volume) : Type 0 where
  pub conventional : v.conventional < 2 ^ 32
  pub sequential : v.sequential < 2 ^ 32
  pub owner : v.owner < 2 ^ 32
  pub group : v.group < 2 ^ 32
  pub mode : v.mode < 2 ^ 32
  pub bytes : (k : ℕ) → get_or v.uuid k 0 < 256
  pub sixteen : length v.uuid ≡ 16
