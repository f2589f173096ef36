-- `with_sun_arcs` meets its contract: where the mean Sun is asked for, or the true one is not, nothing is changed.
use mathlib.Core.Path.{sym, ◌∙◌}
use Rattle.query.specs.SunArcs.{with_sun_arcs}
use Rattle.query.proofs.Query.with_sun_arcs.Goals as goal

pub returns-then-given : goal.returns-then-given
unfolding with_sun_arcs
returns-then-given c = rw (sym c.given.ensures ∙ c.if-given.true)

pub returns-then-not-given : goal.returns-then-not-given
unfolding with_sun_arcs
returns-then-not-given c = rw (sym c.given.ensures ∙ c.if-given.false, sym c.given-2.ensures ∙ c.if-not-given.true)

pub returns : goal.returns
unfolding with_sun_arcs
returns c = rw (c.wider.ensures, sym c.given.ensures ∙ c.if-given.false, sym c.given-2.ensures ∙ c.if-not-given.false)
