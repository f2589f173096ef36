-- `month_days` meets its contract: February by the leap year, any other month as the gap between two running sums.
use mathlib.Core.Path.{◌≡◌, sym, ap, ◌∙◌}
use Prim.Native.Nat.{suc, ◌+◌}
use native.Mathlib.Omega.{arith}
use Rattle.civil.specs.Calendar.{month_days}
use Rattle.civil.specs.Serial.{since_march, before}
use Rattle.civil.proofs.Months.{month-length}
use Rattle.civil.proofs.month_days.Goals as goal
use Rattle.civil.proofs.month_days.Goals.{After-days_before}

ends : (c : After-days_before) → (c.days_before-end.result ≡ c.days_before.result + month_days c.args.year c.args.month)
ends c =
    let y = c.args.year in
    let m = c.args.month in
    let e : c.since_march-m.result + 1 ≡ suc (since_march m) = omega (arith, c.since_march-m.ensures) in
    omega (arith, c.days_before-end.ensures, c.days_before.ensures, ap before e, ap before c.since_march-m.ensures, month-length y m (omega arith) (omega arith) c.if-month-eq2.false)

pub overflow_sub-result : goal.overflow_sub-result
overflow_sub-result c = let e = ends (goal.at.overflow_sub-result c).After-days_before in omega arith

pub returns-then-is_leap : goal.returns-then-is_leap
unfolding month_days
returns-then-is_leap c = rw (c.if-month-eq2.true, sym c.is_leap.ensures ∙ c.if-is_leap.true)

pub returns-else-is_leap : goal.returns-else-is_leap
unfolding month_days
returns-else-is_leap c = rw (c.if-month-eq2.true, sym c.is_leap.ensures ∙ c.if-is_leap.false)

pub returns-else-month-eq2 : goal.returns-else-month-eq2
returns-else-month-eq2 c = let e = ends (goal.at.returns-else-month-eq2 c).After-days_before in omega arith
