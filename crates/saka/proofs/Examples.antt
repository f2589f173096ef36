-- Dates with the mark, computed from the meaning: source 000's second example, and the order of the refusals.
-- Assumes nothing.
use mathlib.Core.Bool.{true}
use mathlib.Core.List.{[], ◌∷◌, map}
use mathlib.Core.Path.{◌≡◌, refl}
use Prim.Native.Nat.{ℕ}
use Rattle.std.specs.Prelude.{Ok, Err}
use Rattle.days.specs.declared.refusal.Refusal.TheVariants.{OutOfRange, BadInput, NoExtraMonth}
use Rattle.saka.specs.declared.LunarDate.{LunarDate}
use Rattle.saka.specs.LunarDays.{fields_in_range, year_in_range, extra_months, elapsed_extra_months, reckoned_day, having_weekday, integer_day, answer_from, day_on, lunar_day_with, lunar_day}

abbrev marked : ℕ → ℕ → ℕ → ℕ → LunarDate
marked y m t w = record { year = y; months = m; tithis = t; weekday = w; leap_month_pending = true }

-- the first day of Saka 1555, a Friday, before that year's extra month Vaiśākha
pub second-example : lunar_day (marked 1555 0 0 4) ≡ Ok 41255
unfolding lunar_day lunar_day_with fields_in_range year_in_range extra_months elapsed_extra_months reckoned_day having_weekday integer_day answer_from day_on
second-example = refl

-- where two refusals are due the earlier one is given: 3 and the year's 2, the year's 2 and 8, 8 and 4, 8 and the day's
-- 2
pub refusals-in-order :
    map lunar_day (marked 1441 12 0 2 ∷ marked 1441 0 0 2 ∷ marked 1442 0 0 2 ∷ marked 1442 0 0 6 ∷ [])
    ≡ Err BadInput ∷ Err OutOfRange ∷ Err NoExtraMonth ∷ Err NoExtraMonth ∷ []
unfolding lunar_day lunar_day_with fields_in_range year_in_range extra_months elapsed_extra_months reckoned_day having_weekday integer_day answer_from day_on
refusals-in-order = refl
