-- `test_arcs` meets its contract: arcs that are not given hold, and of any others the longitude found decides, of which
-- a day in range is not refused. Assumes nothing.
use mathlib.Core.Path.{◌≡◌, sym, ap, ◌∙◌}
use Rattle.longitudes.specs.Longitudes.{longitude_at}
use Rattle.longitudes.specs.Answers.{body_number}
use Rattle.longitudes.proofs.Answers.{longitude-given, given-seconds}
use Rattle.query.specs.Conditions.{given_arcs, in_some, in_arcs}
use Rattle.query.proofs.TrueBodies.{is-given}
use Rattle.reasons.proofs.Testing.{met, unmet, no-arcs, arcs-tested}
use Rattle.reasons.proofs.test_arcs.Goals as goal
use Rattle.reasons.proofs.test_arcs.Goals.{After-have}

tested : (c : After-have) → c.have.result ≡ in_arcs c.args.asked (longitude_at (body_number c.args.body) c.args.day)
tested c = arcs-tested _ _ (sym c.given.ensures ∙ c.if-not-given.false) (c.have.ensures ∙ ap (in_some (given_arcs c.args.asked)) (given-seconds _ _ (sym c.unwrap-found.ensures ∙ c.mean_longitude.ensures)))

pub returns-then-not-given : goal.returns-then-not-given
returns-then-not-given c = no-arcs _ _ (sym c.given.ensures ∙ c.if-not-given.true)

pub unwrap-found-requires : goal.unwrap-found-requires
unwrap-found-requires c = is-given (c.mean_longitude.ensures ∙ longitude-given _ _ c.requires)

pub returns-then-have : goal.returns-then-have
returns-then-have c = met (tested (goal.at.returns-then-have c).After-have) c.if-have.true

pub returns-else-have : goal.returns-else-have
returns-else-have c = unmet (tested (goal.at.returns-else-have c).After-have) c.if-have.false (given-seconds _ _ (sym c.unwrap-found.ensures ∙ c.mean_longitude.ensures))
