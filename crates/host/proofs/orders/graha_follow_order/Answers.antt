-- `graha_follow_order` meets its contract: the number of the answer's order.
use mathlib.Core.Path.{ap, ◌∙◌}
use Rattle.arms.specs.Orders.{AnswerNumbers}
use Rattle.host.proofs.orders.graha_follow_order.Goals as goal

pub returns : goal.returns
returns c = c.number.ensures ∙ ap (λ (n : AnswerNumbers). n.order) c.follow.ensures.meant
