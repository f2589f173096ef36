-- `less` meets its contract: what is subtracted is at most a circle.
use mathlib.Core.Path.{sym, ◌∙◌}
use native.Mathlib.Omega.{arith}
use Rattle.longitudes.proofs.Subtraction.{difference-law}
use Rattle.planets.proofs.less.Goals as goal

pub returns : goal.returns
returns c = (c.within_circle.ensures.0 ∙ sym (difference-law _ _ (omega arith)), c.within_circle.ensures.1)
