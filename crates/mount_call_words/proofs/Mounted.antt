-- A mount told in words: it is told of what the code has, if that is what the mount gives.
-- Assumes nothing.
use Prim.Native.Nat.{ℕ}
use mathlib.Core.List.{List}
use mathlib.Core.Path.{◌≡◌}
use Rattle.mount.specs.Mount.{Mounting}
use Rattle.step_words.specs.Words.{Changed}
use Rattle.mount_call_words.specs.Words.{told_mounted}

pub mounted_so : (w u a : List ℕ) (x y : Mounting) {g : Changed} → x.answer ≡ y.answer → x.mount ≡ y.mount → x.cnv ≡ y.cnv → x.seq ≡ y.seq
    → told_mounted w u a x ≡ g → told_mounted w u a y ≡ g
mounted_so w u a x y answer mount cnv seq e = rw (← answer, ← mount, ← cnv, ← seq) e
