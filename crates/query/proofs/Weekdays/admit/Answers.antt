-- `Weekdays::admit` meets its contract: a number that is no day has no weekday; of a day the test of the weekday's bit
-- is the meaning's.
use native.Mathlib.Omega.{arith}
use borrow.Author.Tests.{le-leb, not-true, not-false}
use Rattle.days.specs.Days.{weekday_on}
use Rattle.days.specs.Weekdays.{in_set}
use Rattle.query.specs.Conditions.{weekday_met}
use Rattle.query.proofs.Weekdays.admit.Goals as goal

pub overflow_shr-result : goal.overflow_shr-result
overflow_shr-result c = omega (arith, c.weekday_of.ensures)

pub returns-then-not-self : goal.returns-then-not-self
unfolding weekday_met
returns-then-not-self c = rw (le-leb _ _ c.if-number-le-LAST.true, not-true _ c.if-not-self.true)

pub returns-else-not-self : goal.returns-else-not-self
unfolding weekday_met in_set
returns-else-not-self c = rw (le-leb _ _ c.if-number-le-LAST.true, not-false _ c.if-not-self.false, c.weekday_of.ensures, le-leb (weekday_on c.args.number) 6 (omega arith))
