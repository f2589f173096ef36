-- `date_at` meets its contract: what it reads from the serial number is day n's date.
use mathlib.Core.Path.{◌≡◌, sym, ap, ◌∙◌}
use Prim.Native.Nat.{ℕ, ◌+◌, ◌-◌}
use native.Mathlib.Omega.{arith}
use Rattle.civil.specs.Calendar.{date_on}
use Rattle.civil.specs.Serial.{epoch_serial}
use Rattle.civil.proofs.Months.{month_at}
use Rattle.civil.proofs.Read.{Read, read-day}
use Rattle.civil.proofs.date_at.Goals as goal
use Rattle.civil.proofs.date_at.Goals.{After-year_start}

-- the day in its year
abbrev within : After-year_start → ℕ
within c = c.args.day + epoch_serial - c.year_start.result

known : (c : After-year_start) → Read (date_on c.args.day) c.year_of-year.result ((c.args.day + epoch_serial - c.year_start.result)) (month_at ((c.args.day + epoch_serial - c.year_start.result)))
known c =
    read-day c.args.day c.year_of-year.result ((c.args.day + epoch_serial - c.year_start.result)) c.year_of-year.ensures.0
    (ap (λ (t : ℕ). c.args.day + epoch_serial - t) c.year_start.ensures.0)

pub days_before-requires : goal.days_before-requires
days_before-requires c = (known (goal.at.days_before-requires c).After-year_start).month-small

pub overflow_sub-day : goal.overflow_sub-day
overflow_sub-day c = omega (arith, c.days_before.ensures, (known (goal.at.overflow_sub-day c).After-year_start).low)

pub returns-then-m-lt10 : goal.returns-then-m-lt10
returns-then-m-lt10 c =
    let r = ((known (goal.at.returns-then-m-lt10 c).After-year_start).spring c.if-m-lt10.true).1 in
    sym (r ∙ rw c.days_before.ensures.0)

pub returns-else-m-lt10 : goal.returns-else-m-lt10
returns-else-m-lt10 c =
    let r = ((known (goal.at.returns-else-m-lt10 c).After-year_start).winter c.if-m-lt10.false).1 in
    let y : c.year_of-year.result - 399 ≡ c.year_of-year.result - 400 + 1 = omega arith in
    sym (r ∙ rw (c.days_before.ensures.0, y))
