-- `graha_true_place_result` meets its contract: the refusal of the mean place's answer, which is of any longitude.
use mathlib.Core.Path.{◌∙◌}
use Rattle.arms.specs.Orders.{seconds_on, true_seconds_on}
use Rattle.arms.proofs.Laws.{place-alike}
use Rattle.host.proofs.orders.graha_true_place_result.Goals as goal

pub returns : goal.returns
returns c = c.graha_place_result.ensures ∙ (place-alike seconds_on true_seconds_on _ _).0
