use Rattle.crc32.proofs.Words.{looked_up, looked_more, looked_done, by_word, by_eight}
use lib.Bits.{bit_xor, xor_lt}
use mathlib.Core.List.{reverse}
use mathlib.Core.Path.{◌≡◌, ◌∙◌, sym}
use mathlib.Core.Logic.{inl, inr}
use borrow.Author.Rules.{rules}
use Rattle.crc32.proofs.next_eight.Goals as goal

pub loop-table-preserved : goal.loop-table-preserved
loop-table-preserved c =
    looked_more c.next.new.self.b.iter.rest.now c.loop-table.sum c.in-Some.field-0-1.now c.in-Some.table.now c.in-Some.ensures.steps.1 c.in-Some.ensures.steps.0 ∙ c.loop-table.invariant

pub returns : goal.returns
returns c =
    let a = c.args in
    let l = c.loop-table in
    let rest = l.table-iterator in
    let none : looked_up l.sum (reverse rest.b.iter.rest.now) rest.a.rest.now ≡ l.sum = elim c.in-None.ensures.steps [
      | inl h ↦ looked_done l.sum rest.b.iter.rest.now rest.a.rest.now (inl h.1.0)
      | inr h ↦ looked_done l.sum rest.b.iter.rest.now rest.a.rest.now (inr h.1.0)
    ] in
    sym none
    ∙ l.invariant
    ∙ by_eight a.tables.now c.requires (bit_xor a.crc a.word) (xor_lt 64 a.crc a.word (search rules) (search rules)) c.told-tables
    ∙ by_word 8 a.crc a.word (search rules)
