-- `test_weekday` meets its contract: a weekday that is admitted holds, and of any other the day's is told. Assumes
-- nothing.
use Rattle.reasons.proofs.Testing.{met, unmet, weekday-tested}
use Rattle.reasons.proofs.test_weekday.Goals as goal

pub returns-then-admit : goal.returns-then-admit
returns-then-admit c = met (weekday-tested _ _ c.requires c.admit.ensures) c.if-admit.true

pub returns : goal.returns
returns c = unmet (weekday-tested _ _ c.requires c.admit.ensures) c.if-admit.false c.weekday_on-found.ensures
