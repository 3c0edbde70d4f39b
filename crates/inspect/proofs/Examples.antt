-- Mode 0640 less 0222 is 0440.
-- Assumes nothing.
use mathlib.Core.Path.{◌≡◌, refl}
use Rattle.inspect.specs.Show.{less_writing}

pub mode_cleared : less_writing 0o640 ≡ 0o440
mode_cleared = refl
