-- `true_planet` meets its contract: a number of the pair is the number of the day.
use mathlib.Core.Path.{◌∙◌}
use Rattle.planets.specs.OnDays.{planet_number, true_planet_at}
use Rattle.host.proofs.OnNumbers.{on-number}
use Rattle.host.proofs.positions.true_planet.Goals as goal

pub returns : goal.returns
returns c = c.unwrap_or.ensures ∙ on-number (true_planet_at (planet_number c.args.planet)) _ c.at.ensures c.true_longitude.ensures
