-- `mean_thirds` meets its contract: a number of the pair is the number of the day.
use mathlib.Core.Path.{◌∙◌}
use Rattle.longitudes.specs.Longitudes.{thirds_at}
use Rattle.longitudes.specs.Answers.{body_number}
use Rattle.host.proofs.OnNumbers.{on-number}
use Rattle.host.proofs.positions.mean_thirds.Goals as goal

pub returns : goal.returns
returns c = c.unwrap_or.ensures ∙ on-number (thirds_at (body_number c.args.body)) _ c.at.ensures c.mean_thirds.ensures
