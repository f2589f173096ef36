-- The calendar of ISO 8601 dates: which dates there are, which comes after which, and each day's date. Gregorian in
-- every year, before 1582 too.
-- Assumes nothing.
use Rattle.std.specs.Prelude.{Bool, cond, ◌&&◌, ℕ, zero, suc, ◌+◌, leb, ltb, Result, Ok, Err}
use Rattle.days.specs.declared.refusal.Refusal.{Refusal}
use Rattle.days.specs.declared.refusal.Refusal.TheVariants.{NoSuchDate, OutOfRange}
use Rattle.days.specs.Days.{last_day}
use Rattle.civil.specs.declared.Date.{Date}
use Rattle.civil.specs.Calendar.{month_days}
use Rattle.civil.specs.Answers.{day_from}

-- the days of a month by the Gregorian rule: after 400 years it begins anew, and from 1583 on the civil calendar has
-- it, so those of the civil year 1600 later
-- (that its leap years are the ones divisible by 4, without the centuries not divisible by 400, is the law `iso-
-- february`)
unfoldable pub iso_month_days : ℕ → ℕ → ℕ
iso_month_days y m = month_days (y + 1600) m

-- there is such a date
unfoldable pub iso_exists : Date → Bool
iso_exists x = leb 1 x.month && leb x.month 12 && leb 1 x.day && leb x.day (iso_month_days x.year x.month)

-- the date after
unfoldable pub iso_next : Date → Date
iso_next x =
    cond (ltb x.day (iso_month_days x.year x.month)) (record { year = x.year; month = x.month; day = x.day + 1 })
    (cond (ltb x.month 12) (record { year = x.year; month = x.month + 1; day = 1 })
    (record { year = x.year + 1; month = 1; day = 1 }))

-- day 0's date
abbrev pub iso_epoch : Date
iso_epoch = record { year = 1520; month = 3; day = 29 }

-- day n's date: n dates after day 0's
unfoldable pub iso_on : ℕ → Date
iso_on zero = iso_epoch
iso_on (suc n) = iso_next (iso_on n)

-- the day of a date, sought date by date over all days from day 0 on
unfoldable pub iso_day_of : Date → Result ℕ Refusal
iso_day_of x = cond (iso_exists x) (day_from iso_next (suc last_day) 0 iso_epoch x) (Err NoSuchDate)

-- the date of a day
unfoldable pub iso_date_of : ℕ → Result Date Refusal
iso_date_of n = cond (leb n last_day) (Ok (iso_on n)) (Err OutOfRange)
