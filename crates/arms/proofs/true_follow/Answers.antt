-- `true_follow` meets its contract: held where it is refused and on the last day, else it runs at the rate; the laws
-- are of any longitude, and the range is how far a true body goes in a day. Assumes nothing.
use Prim.Native.Nat.{◌<◌, ◌≤◌}
use native.Mathlib.Omega.{arith}
use Rattle.std.proofs.lemmas.Result.{err_from_is_err_and}
use Rattle.days.specs.Days.{last_day}
use mathlib.Core.Path.{ap, ◌∙◌}
use Rattle.arms.specs.Orders.{true_seconds_on, rate_on}
use Rattle.arms.specs.Ranges.{IsTrueRate}
use Rattle.arms.proofs.Laws.{order-checked, order-refused, in-ranges, follow-held, follow-ends, follow-runs, hold-true-rate}
use Rattle.arms.proofs.TrueMotion.{true-way}
use Rattle.arms.proofs.Ranges.{true-rate-range}
use Rattle.arms.proofs.true_follow.Goals as goal
use Rattle.arms.proofs.true_follow.Goals.{Else-day-eq-LAST}

-- where it runs there is a next day, and such a body
ranges : (c : Else-day-eq-LAST) → (c.args.day < last_day) × (c.args.body ≤ 8)
ranges c = let r = in-ranges _ _ (order-checked _ _ c.in_ok-body.ensures).accepted in (omega (arith, r.0, c.if-day-eq-LAST.false), r.1)

pub returns-in_err-body : goal.returns-in_err-body
returns-in_err-body c =
    let p = err_from_is_err_and c.from_residual.result c.from_residual.ensures.1 in
    let both = follow-held true_seconds_on IsTrueRate _ _ hold-true-rate (order-refused _ _ c.in_err-body.ensures) in
    rw (p.1, p.2) (record { meant = both.0; range = both.1 })

pub returns-then-day-eq-LAST : goal.returns-then-day-eq-LAST
returns-then-day-eq-LAST c = let both = follow-ends true_seconds_on IsTrueRate _ _ hold-true-rate (order-checked _ _ c.in_ok-body.ensures).accepted (omega (arith, c.if-day-eq-LAST.true)) in record { meant = both.0; range = both.1 }

pub true_rate_on-rate-requires : goal.true_rate_on-rate-requires
true_rate_on-rate-requires c = (ranges (goal.at.true_rate_on-rate-requires c).Else-day-eq-LAST).0

pub returns : goal.returns
returns c =
    let r = ranges (goal.at.returns c).Else-day-eq-LAST in
    let k = order-checked _ _ c.in_ok-body.ensures in
    let both = follow-runs true_seconds_on IsTrueRate _ _ k.accepted r.0 _ (c.true_rate_on-rate.ensures ∙ ap (rate_on true_seconds_on _) k.number) (true-rate-range _ (true-way _ _ r.0 r.1)) in
    record { meant = both.0; range = both.1 }
