-- `graha_place_result` meets its contract: the refusal of the answer.
use mathlib.Core.Path.{ap, ◌∙◌}
use Rattle.arms.specs.Orders.{AnswerNumbers}
use Rattle.host.proofs.Told.{refusal-told}
use Rattle.host.proofs.orders.graha_place_result.Goals as goal

pub returns : goal.returns
returns c = c.result_number.ensures ∙ refusal-told _ ∙ ap (λ (n : AnswerNumbers). n.refusal) c.place.ensures.meant
