-- `elements_in_range` meets its contract: its tests are the meaning's, in its order.
use mathlib.Core.Path.{sym, ◌∙◌}
use Rattle.query.specs.Conditions.{elements_in_range}
use Rattle.query.proofs.elements_in_range.Goals as goal

pub returns-then-not-in_range : goal.returns-then-not-in_range
unfolding elements_in_range
returns-then-not-in_range c = rw (sym c.in_range.ensures ∙ c.if-not-in_range.true)

pub returns-then-not-in_range-2 : goal.returns-then-not-in_range-2
unfolding elements_in_range
returns-then-not-in_range-2 c = rw (sym c.in_range.ensures ∙ c.if-not-in_range.false, sym c.in_range-2.ensures ∙ c.if-not-in_range-2.true)

pub returns-then-not-in_range-3 : goal.returns-then-not-in_range-3
unfolding elements_in_range
returns-then-not-in_range-3 c = rw (sym c.in_range.ensures ∙ c.if-not-in_range.false, sym c.in_range-2.ensures ∙ c.if-not-in_range-2.false, sym c.in_range-3.ensures ∙ c.if-not-in_range-3.true)

pub returns : goal.returns
unfolding elements_in_range
returns c = rw (sym c.in_range.ensures ∙ c.if-not-in_range.false, sym c.in_range-2.ensures ∙ c.if-not-in_range-2.false, sym c.in_range-3.ensures ∙ c.if-not-in_range-3.false, c.in_range-4.ensures)
