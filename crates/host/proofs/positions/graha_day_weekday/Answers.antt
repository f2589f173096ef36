-- `graha_day_weekday` meets its contract: a number of the pair is the number of the day.
use mathlib.Core.Path.{◌∙◌}
use Rattle.days.specs.Days.{weekday_at}
use Rattle.host.proofs.OnNumbers.{on-number}
use Rattle.host.proofs.positions.graha_day_weekday.Goals as goal

pub returns : goal.returns
returns c = c.unwrap_or.ensures ∙ on-number weekday_at _ c.at.ensures c.weekday.ensures
