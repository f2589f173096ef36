-- The day of a date and the date of a day.
-- Assumes nothing.
use Rattle.std.specs.Prelude.{cond, ℕ, zero, suc, leb, Result, Ok, Err}
use Rattle.std.specs.Result.{result_unwrap_or}
use Rattle.days.specs.declared.refusal.Refusal.{Refusal}
use Rattle.days.specs.declared.refusal.Refusal.TheVariants.{NoSuchDate, OutOfRange}
use Rattle.days.specs.Days.{last_day}
use Rattle.civil.specs.declared.Date.{Date}
use Rattle.civil.specs.Calendar.{date_exists, same_date, next, epoch, date_on}

-- the day whose date is x, sought date by date over k days, by the rule that gives the date after a date: from day n
-- on, whose date is z
unfoldable pub day_from : (Date → Date) → ℕ → ℕ → Date → Date → Result ℕ Refusal
day_from follow zero n z x = Err OutOfRange
day_from follow (suc k) n z x = cond (same_date z x) (Ok n) (day_from follow k (suc n) (follow z) x)

-- sought over all days from day 0 on
unfoldable pub day_of_date : Date → Result ℕ Refusal
day_of_date x = cond (date_exists x) (day_from next (suc last_day) 0 epoch x) (Err NoSuchDate)

unfoldable pub date_of_day : ℕ → Result Date Refusal
date_of_day n = cond (leb n last_day) (Ok (date_on n)) (Err OutOfRange)

-- what stands for the date of a number that is no day's
abbrev pub zeros : Date
zeros = record { year = 0; month = 0; day = 0 }

abbrev pub date_or_zeros : ℕ → Date
date_or_zeros n = result_unwrap_or (date_of_day n) zeros
