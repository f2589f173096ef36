-- `text::read_decimal` meets its contract: what `Reading` says holds before each digit is read. Assumes nothing.
use Rattle.std.proofs.Common.{rules, arith, sym}
use borrow.Author.Tests.{eqb-false}
use Rattle.text.proofs.Reading.{read_none, read-long, below-digits, above-digits, reading-start, reading-fits, reading-bad, reading-next, reading-end}
use Rattle.text.proofs.read_decimal.Goals as goal
use Rattle.text.proofs.read_decimal.Goals.{then-is_empty-via-then-is_empty, then-is_empty-via-else-is_empty+then-digits-gt9}

pub returns-then-is_empty : goal.returns-then-is_empty
returns-then-is_empty c =
    elim c.then-is_empty.branch [
      | then-is_empty-via-then-is_empty w ↦ sym (read_none _ (search rules))
      | then-is_empty-via-else-is_empty+then-digits-gt9 w ↦ sym (read-long _ w.if-digits-gt9.true)
    ]

pub loop-digit-init : goal.loop-digit-init
loop-digit-init c = reading-start _

pub overflow_mul-number : goal.overflow_mul-number
overflow_mul-number c = omega (arith, reading-fits _ _ _ c.loop-digit.invariant (omega arith) (omega arith))

pub overflow_add-number : goal.overflow_add-number
overflow_add-number c = omega (arith, reading-fits _ _ _ c.loop-digit.invariant (omega arith) (omega arith))

pub returns-in_default : goal.returns-in_default
returns-in_default c = sym (reading-bad _ _ _ c.loop-digit.invariant (omega arith) (omega arith) (omega arith) (below-digits _ (omega arith)))

pub returns-in_default-2 : goal.returns-in_default-2
returns-in_default-2 c = sym (reading-bad _ _ _ c.loop-digit.invariant (omega arith) (omega arith) (omega arith) (above-digits _ (omega arith)))

pub loop-digit-preserved : goal.loop-digit-preserved
loop-digit-preserved c = reading-next _ _ _ c.loop-digit.invariant (omega arith) (omega arith) (omega arith)

pub returns : goal.returns
returns c =
    let some = eqb-false _ 0 (sym (c.if-is_empty.ensures)) in
    reading-end _ _ _ c.loop-digit.invariant c.loop-digit-test.false (omega (arith, some)) (omega arith)
