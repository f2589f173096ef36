-- `graha_true_follow_rate` meets its contract: the value of the answer's order, with its range.
use mathlib.Core.Path.{sym, ap, ◌∙◌, subst}
use Rattle.arms.specs.Orders.{AnswerNumbers}
use Rattle.arms.specs.Ranges.{IsTrueRate}
use Rattle.host.proofs.orders.graha_true_follow_rate.Goals as goal

pub returns : goal.returns
returns c =
    let v = c.value.ensures in
    let p = c.true_follow.ensures in
    record { value = v ∙ ap (λ (n : AnswerNumbers). n.value) p.meant; true_rate = subst IsTrueRate (sym v) p.range }
