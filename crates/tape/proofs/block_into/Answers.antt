use native.Mathlib.Omega.{arith}
use Prim.Native.Nat.{◌≤◌}
use mathlib.Core.Path.{ap}
use Rattle.tape_lines.specs.Facts.{line_room}
use Rattle.tape_turns.specs.declared.Turned.{Turned}
use Rattle.tape.proofs.Playing.{copied}
use Rattle.tape.proofs.block_into.Goals as goal

pub copy_lines-requires : goal.copy_lines-requires
copy_lines-requires c =
    let p = c.play_block-played in
    let short : p.result.to ≤ line_room = p.ensures.to_in_bounds (omega (arith, ap (λ (x : Turned). x.to) c.from_start.ensures)) in
    (omega (arith, short, p.auto.out), omega (arith, short, c.requires))

pub returns : goal.returns
returns c =
    let p = c.play_block-played in
    let start = c.from_start.ensures in
    let short : p.result.to ≤ line_room = p.ensures.to_in_bounds (omega (arith, ap (λ (x : Turned). x.to) start)) in
    copied (rw start at p.ensures.plays) short c.copy_lines.ensures
