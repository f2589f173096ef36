-- `in_arcs` meets its contract: the longitude of a day in range is not refused.
use mathlib.Core.Path.{ap, sym, ◌∙◌}
use Rattle.longitudes.proofs.Answers.{longitude-given, given-seconds}
use Rattle.query.specs.Conditions.{given_arcs, in_some, in_arcs}
use Rattle.query.proofs.TrueBodies.{is-given}
use Rattle.query.proofs.in_arcs.Goals as goal

pub unwrap-found-requires : goal.unwrap-found-requires
unwrap-found-requires c = is-given (c.mean_longitude.ensures ∙ longitude-given _ _ c.requires)

pub returns-then-given : goal.returns-then-given
unfolding in_arcs
returns-then-given c =
    let a = c.args in
    c.have.ensures
    ∙ ap (in_some (given_arcs a.arcs)) (given-seconds a.body a.day (sym c.unwrap-found.ensures ∙ c.mean_longitude.ensures))
    ∙ rw (sym c.given.ensures ∙ c.if-given.true)

pub returns-else-given : goal.returns-else-given
unfolding in_arcs
returns-else-given c = rw (sym c.given.ensures ∙ c.if-given.false)
