-- `graha_true_sun` meets its contract: a number of the pair is the number of the day.
use mathlib.Core.Path.{◌∙◌}
use Rattle.panchanga.specs.OnDays.{true_sun_at}
use Rattle.host.proofs.OnNumbers.{on-number}
use Rattle.host.proofs.positions.graha_true_sun.Goals as goal

pub returns : goal.returns
returns c = c.unwrap_or.ensures ∙ on-number true_sun_at _ c.at.ensures c.true_sun.ensures
