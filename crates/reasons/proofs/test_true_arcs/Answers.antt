-- `test_true_arcs` meets its contract: arcs that are not given hold, and of any others the longitude found decides, of
-- which a day in range is not refused. Assumes nothing.
use mathlib.Core.Path.{◌≡◌, sym, ap, ◌∙◌}
use Rattle.query.specs.Conditions.{true_longitude_at, given_arcs, in_some, in_arcs}
use Rattle.query.specs.TrueBodies.{true_number}
use Rattle.query.proofs.TrueBodies.{is-given, on-day, given-longitude}
use Rattle.reasons.proofs.Testing.{met, unmet, no-arcs, arcs-tested}
use Rattle.reasons.proofs.test_true_arcs.Goals as goal
use Rattle.reasons.proofs.test_true_arcs.Goals.{After-have}

tested : (c : After-have) → c.have.result ≡ in_arcs c.args.asked (true_longitude_at c.args.edition (true_number c.args.body) c.args.day)
tested c = arcs-tested _ _ (sym c.given.ensures ∙ c.if-not-given.false) (c.have.ensures ∙ ap (in_some (given_arcs c.args.asked)) (given-longitude _ _ _ (sym c.unwrap-found.ensures ∙ c.true_longitude.ensures)))

pub returns-then-not-given : goal.returns-then-not-given
returns-then-not-given c = no-arcs _ _ (sym c.given.ensures ∙ c.if-not-given.true)

pub unwrap-found-requires : goal.unwrap-found-requires
unwrap-found-requires c = is-given (c.true_longitude.ensures ∙ sym (on-day _ _ _ c.requires.1 c.requires.0))

pub returns-then-have : goal.returns-then-have
returns-then-have c = met (tested (goal.at.returns-then-have c).After-have) c.if-have.true

pub returns-else-have : goal.returns-else-have
returns-else-have c = unmet (tested (goal.at.returns-else-have c).After-have) c.if-have.false (given-longitude _ _ _ (sym c.unwrap-found.ensures ∙ c.true_longitude.ensures))
