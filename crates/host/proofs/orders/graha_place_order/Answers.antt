-- `graha_place_order` meets its contract: the number of the answer's order.
use mathlib.Core.Path.{ap, ◌∙◌}
use Rattle.arms.specs.Orders.{AnswerNumbers}
use Rattle.host.proofs.orders.graha_place_order.Goals as goal

pub returns : goal.returns
returns c = c.number.ensures ∙ ap (λ (n : AnswerNumbers). n.order) c.place.ensures.meant
