-- `true_longitudes` meets its contract: `in_range` tells which answer it is, and the five are the planets in their
-- order.
use mathlib.Core.Path.{sym, ◌∙◌}
use Rattle.days.proofs.Laws.{given, refused}
use Rattle.planets.specs.OnDays.{true_planets_at}
use Rattle.planets.proofs.true_longitudes.Goals as goal

pub returns-then-not-in_range : goal.returns-then-not-in_range
returns-then-not-in_range c = sym (refused _ _ (sym c.in_range.ensures ∙ c.if-not-in_range.true))

pub returns : goal.returns
unfolding true_planets_at
returns c =
    rw (c.true_on.ensures, c.true_on-2.ensures, c.true_on-3.ensures, c.true_on-4.ensures, c.true_on-5.ensures)
    (sym (given _ _ (sym c.in_range.ensures ∙ c.if-not-in_range.false)))
