-- `difference` meets its contract: one law for each order of the two places on the circle.
use mathlib.Core.Path.{sym}
use Rattle.longitudes.proofs.Subtraction.{difference-back, difference-over}
use Rattle.longitudes.proofs.difference.Goals as goal

pub returns-then-from-to : goal.returns-then-from-to
returns-then-from-to c = sym (difference-back _ _ c.if-from-to.true)

pub returns-else-from-to : goal.returns-else-from-to
returns-else-from-to c = sym (difference-over _ _ c.if-from-to.false)
