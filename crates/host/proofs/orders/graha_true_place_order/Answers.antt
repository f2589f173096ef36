-- `graha_true_place_order` meets its contract: the number of the order of the mean place's answer, which is of any
-- longitude.
use mathlib.Core.Path.{◌∙◌}
use Rattle.arms.specs.Orders.{seconds_on, true_seconds_on}
use Rattle.arms.proofs.Laws.{place-alike}
use Rattle.host.proofs.orders.graha_true_place_order.Goals as goal

pub returns : goal.returns
returns c = c.graha_place_order.ensures ∙ (place-alike seconds_on true_seconds_on _ _).1
