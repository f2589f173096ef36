-- `read_and_find` is safe and ends: an accepted page's query is not refused, and the number of a line at fault fits.
-- Assumes nothing.
use mathlib.Core.Path.{sym, ◌∙◌}
use native.Mathlib.Omega.{arith}
use Rattle.find.proofs.Pages.{accepted-query, small-number}
use Rattle.find.proofs.read_and_find.Goals as goal

pub refuse-requires : goal.refuse-requires
refuse-requires c =
    small-number _ _ (sym c.in-Err.is ∙ c.read.ensures)
    (omega (arith, c.read_input-n.ensures.0, c.read_input-n.ensures.1, c.read_input-n.auto.buffer, c.requires.0))

pub find_days-requires : goal.find_days-requires
find_days-requires c = (
  accepted-query _ _ (sym c.in-Ok.is ∙ c.read.ensures),
  omega (arith, c.read_input-n.auto.buffer, c.requires.1),
)
