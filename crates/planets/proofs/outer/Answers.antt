-- `outer` meets its contract: the first anomaly is the mean Sun less the planet.
use mathlib.Core.Path.{ap, ◌∙◌}
use Rattle.planets.specs.Steps.{true_planet}
use Rattle.planets.proofs.outer.Goals as goal

pub returns : goal.returns
returns c = c.true_planet.ensures ∙ ap (true_planet _ _) c.less-first.ensures.0
