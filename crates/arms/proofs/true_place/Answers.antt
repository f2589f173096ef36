-- `true_place` meets its contract: held where it is refused, else it goes to the angle; the laws are of any longitude.
-- Assumes nothing.
use Rattle.std.proofs.lemmas.Result.{err_from_is_err_and}
use mathlib.Core.Path.{ap, ◌∙◌}
use Rattle.arms.specs.Orders.{true_seconds_on, angle_on}
use Rattle.arms.proofs.Laws.{order-checked, order-refused, in-ranges, place-held, place-goes}
use Rattle.arms.proofs.TrueSeconds.{true-small}
use Rattle.arms.proofs.true_place.Goals as goal

pub returns-in_err-body : goal.returns-in_err-body
returns-in_err-body c =
    let p = err_from_is_err_and c.from_residual.result c.from_residual.ensures.1 in
    let both = place-held true_seconds_on _ _ (order-refused _ _ c.in_err-body.ensures) in
    rw (p.1, p.2) (record { meant = both.0; range = both.1.0; exact = both.1.1 })

pub true_angle_on-angle-requires : goal.true_angle_on-angle-requires
true_angle_on-angle-requires c = (in-ranges _ _ (order-checked _ _ c.in_ok-body.ensures).accepted).0

pub returns : goal.returns
returns c =
    let k = order-checked _ _ c.in_ok-body.ensures in
    let both = place-goes true_seconds_on _ _ k.accepted (true-small _ _) _ (c.true_angle_on-angle.ensures ∙ ap (angle_on true_seconds_on _) k.number) in
    record { meant = both.0; range = both.1.0; exact = both.1.1 }
