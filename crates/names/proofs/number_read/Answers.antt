use native.Mathlib.Omega.{arith}
use mathlib.Core.Path.{sym}
use borrow.Author.Tests.{eqb-true, eqb-false}
use Rattle.names.proofs.Reading.{no_digit_tested, read_start, read_more, read_whole, not_digit, not_leading, not_large, not_empty}
use Rattle.names.proofs.number_read.Goals as goal

pub loop-i-init : goal.loop-i-init
loop-i-init c = read_start c.args.text.now

pub returns-then-not-is_ascii_digit : goal.returns-then-not-is_ascii_digit
returns-then-not-is_ascii_digit c = let l = c.loop-i in
    λ n s. not_digit _ l.i l.value l.invariant c.loop-i-test.true (no_digit_tested _ (sym c.if-not-is_ascii_digit.ensures.value)) n

pub returns-then-i-value : goal.returns-then-i-value
returns-then-i-value c = let l = c.loop-i in
    λ n s. not_leading _ l.i l.value l.invariant c.loop-i-test.true c.if-i-value.true n

pub overflow_mul-value : goal.overflow_mul-value
overflow_mul-value c = record { fits = omega (arith, c.loop-i.invariant.small) }

pub overflow_add-value : goal.overflow_add-value
overflow_add-value c = record { fits = omega (arith, c.loop-i.invariant.small, c.from.ensures, c.if-not-is_ascii_digit.ensures.cases.1) }

pub returns-then-value-ge-MOST_FILES : goal.returns-then-value-ge-MOST_FILES
returns-then-value-ge-MOST_FILES c = let l = c.loop-i in
    λ n s. not_large _ l.i l.value l.invariant c.loop-i-test.true (omega (arith, c.from.ensures)) n s

pub loop-i-preserved : goal.loop-i-preserved
loop-i-preserved c = let l = c.loop-i in let (low, high) = c.if-not-is_ascii_digit.ensures.cases in
    rw c.from.ensures (read_more _ l.i l.value l.invariant c.loop-i-test.true (record { low = low; high = high }) c.if-i-value.false (omega (arith, c.from.ensures)))

pub returns-then-is_empty : goal.returns-then-is_empty
returns-then-is_empty c = λ n s. not_empty _ (eqb-true _ 0 (sym c.if-is_empty.ensures)) n

pub returns : goal.returns
returns c = let l = c.loop-i in
    read_whole _ l.i l.value l.invariant (omega (arith, l.invariant.within)) (omega (arith, eqb-false _ 0 (sym c.if-is_empty.ensures)))
