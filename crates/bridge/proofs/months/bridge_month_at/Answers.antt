-- `bridge_month_at` meets its contract: nothing where it is refused, else the two numbers. Assumes nothing.
use borrow.Author.Tests.{eq-eqb, ne_eqb}
use Rattle.bridge.specs.Months.{month_together}
use Rattle.bridge.proofs.months.bridge_month_at.Goals as goal

pub returns-then-found-ne0 : goal.returns-then-found-ne0
unfolding month_together
returns-then-found-ne0 c = rw (← c.month-found.ensures.0, ne_eqb _ 0 c.if-found-ne0.true)

pub returns : goal.returns
unfolding month_together
returns c = rw (← c.month-found.ensures.0, eq-eqb _ 0 c.if-found-ne0.false) c.joined.ensures
