-- `to_arc` meets its contract: the test is the meaning's.
use native.Mathlib.Omega.{arith}
use borrow.Author.Tests.{lt-ltb, le-ltb}
use Rattle.longitudes.proofs.Subtraction.{is-small}
use Rattle.query.specs.Conditions.{in_arc}
use Rattle.search.specs.Parts.{approach_to}
use Rattle.search.proofs.to_arc.Goals as goal

pub returns-then-past-arc : goal.returns-then-past-arc
unfolding approach_to in_arc
returns-then-past-arc c = rw (← c.difference-past.ensures, lt-ltb _ _ c.if-past-arc.true)

pub overflow_sub-result : goal.overflow_sub-result
overflow_sub-result c = omega (arith, is-small _ _ _ c.difference-past.ensures)

pub returns-else-past-arc : goal.returns-else-past-arc
unfolding approach_to in_arc
returns-else-past-arc c = rw (← c.difference-past.ensures, le-ltb _ _ c.if-past-arc.false)
