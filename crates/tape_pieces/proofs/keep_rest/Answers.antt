use Prim.Native.Nat.{◌+◌, ◌-◌}
use native.Mathlib.Omega.{arith}
use mathlib.Core.Path.{◌≡◌, sym, ap, ◌∙◌}
use mathlib.Core.List.{[]}
use lib.ListN.{length, take, drop, length-drop, drop_of_length-le}
use lib.Seq.{sets, length-take-le}
use Rattle.tape_pieces.proofs.Stores.{between, moved}
use Rattle.tape_pieces.proofs.keep_rest.Goals as goal

pub returns-then-have-from : goal.returns-then-have-from
returns-then-have-from c =
    let a = c.args in
    let none : drop a.from (take a.have a.b.now) ≡ [] = drop_of_length-le (take a.have a.b.now) {i = a.from} (omega (arith, length-take-le a.have a.b.now c.requires)) in
    record { value = sym (ap length none); b_after = ap (λ x. sets a.b.now 0 x) (sym none) }

pub returns : goal.returns
returns c =
    let a = c.args in
    let n : a.from + (a.have - a.from) ≡ a.have = omega arith in
    let e : take (a.have - a.from) (drop a.from a.b.now) ≡ drop a.from (take a.have a.b.now) =
    between a.b.now a.from (a.have - a.from) (omega arith) ∙ ap (λ k. drop a.from (take k a.b.now)) n in
    record { value = omega (arith, length-drop a.from (take a.have a.b.now), length-take-le a.have a.b.now c.requires); b_after = c.copy_within.ensures.after ∙ moved a.b.now a.from (a.have - a.from) (omega arith) ∙ ap (λ x. sets a.b.now 0 x) e }
