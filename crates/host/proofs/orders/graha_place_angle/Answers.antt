-- `graha_place_angle` meets its contract: the value of the answer's order, with its range and its exact case.
use mathlib.Core.Path.{sym, ap, ◌∙◌, subst}
use Rattle.arms.specs.Orders.{AnswerNumbers, seconds_on}
use Rattle.arms.specs.Ranges.{IsAngle, ExactAngle}
use Rattle.host.proofs.orders.graha_place_angle.Goals as goal

pub returns : goal.returns
returns c =
    let v = c.value.ensures in
    let p = c.place.ensures in
    record { value = v ∙ ap (λ (n : AnswerNumbers). n.value) p.meant; angle = subst IsAngle (sym v) p.range; exact_angle = subst (ExactAngle seconds_on _ _) (sym v) p.exact }
