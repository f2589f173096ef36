-- What the calls take and hand back as plain numbers: each number of an answer has a call of its own.
-- Assumes nothing.
use Rattle.std.specs.Prelude.{Bool, cond, not, ℕ, leb, eqb, Result}
use Rattle.std.specs.Result.{result_unwrap_or}
use Rattle.arms.specs.declared.Arm.{Arm}
use Rattle.arms.specs.Orders.{no_degrees}
use Rattle.days.specs.declared.refusal.Refusal.{Refusal}
use Rattle.days.specs.declared.Day.{Day}
use Rattle.days.specs.Days.{last_day, pair_at}
use Rattle.civil.specs.declared.Date.{Date}
use Rattle.saka.specs.declared.LunarDate.{LunarDate}
use Rattle.lunar_months.specs.declared.Months.{Months}
use Rattle.panchanga.specs.TrueLongitudes.{first_edition}

abbrev pub date_from : ℕ → ℕ → ℕ → Date
date_from y m d = record { year = y; month = m; day = d }

-- the pair of the cycle C and the day A within it
abbrev pub pair_from : ℕ → ℕ → Day
pair_from C A = record { cycle = C; within = A }

-- the last is paper 02's mark
abbrev pub lunar_date_from : ℕ → ℕ → ℕ → ℕ → Bool → LunarDate
lunar_date_from y m t w p = record { year = y; months = m; tithis = t; weekday = w; leap_month_pending = p }

-- any number but 0 sets the mark
abbrev pub mark_from : ℕ → Bool
mark_from n = not (eqb n 0)

-- a number of the day with the number n; 0 where there is no such day
unfoldable pub on_number : (Day → ℕ) → ℕ → ℕ
on_number f n = cond (leb n last_day) (f (pair_at n)) 0

-- the first edition's row of so many month starts (paper 02's turns) and days covered
abbrev pub row_from : ℕ → ℕ → Months
row_from turns covered = record { edition = first_edition; starts = turns; covered = covered }

-- the arm that is told, and zeros of a refusal
abbrev pub arm_told : Result Arm Refusal → Arm
arm_told answer = result_unwrap_or answer (record { angle = no_degrees; rate = no_degrees })
