-- The civil calendar: which dates there are, which comes after which, and each day's date. Julian up to 4 October 1582,
-- Gregorian from 15 October 1582.
-- Assumes nothing.
use Rattle.std.specs.Prelude.{Bool, cond, not, ◌&&◌, List, [], ◌∷◌, ℕ, zero, suc, ◌+◌, ◌-◌, ◌%◌, leb, ltb, eqb, get_or}
use Rattle.civil.specs.declared.Date.{Date}

abbrev pub last_julian : Date
last_julian = record { year = 1582; month = 10; day = 4 }

abbrev pub first_gregorian : Date
first_gregorian = record { year = 1582; month = 10; day = 15 }

-- a century year of the Gregorian calendar
abbrev pub gregorian_century : ℕ → Bool
gregorian_century y = ltb 1582 y && eqb (y % 100) 0

-- leap years: those divisible by 4, without the Gregorian centuries not divisible by 400
unfoldable pub leap : ℕ → Bool
leap y = eqb (y % 4) 0 && not (gregorian_century y && not (eqb (y % 400) 0))

-- the months' lengths in a common year, January first
abbrev pub lengths : List ℕ
lengths = 31 ∷ 28 ∷ 31 ∷ 30 ∷ 31 ∷ 30 ∷ 31 ∷ 31 ∷ 30 ∷ 31 ∷ 30 ∷ 31 ∷ []

-- the days of a month; February has one more in a leap year
unfoldable pub month_days : ℕ → ℕ → ℕ
month_days y m = get_or lengths (m - 1) 0 + cond (eqb m 2 && leap y) 1 0

-- 5 to 14 October 1582
unfoldable pub lost : Date → Bool
lost x = eqb x.year 1582 && eqb x.month 10 && ltb 4 x.day && ltb x.day 15

-- there is such a date
unfoldable pub date_exists : Date → Bool
date_exists x = leb 1 x.month && leb x.month 12 && leb 1 x.day && leb x.day (month_days x.year x.month) && not (lost x)

unfoldable pub same_date : Date → Date → Bool
same_date x z = eqb x.year z.year && eqb x.month z.month && eqb x.day z.day

-- the date after
unfoldable pub next : Date → Date
next x =
    cond (same_date x last_julian) first_gregorian
    (cond (ltb x.day (month_days x.year x.month)) (record { year = x.year; month = x.month; day = x.day + 1 })
    (cond (ltb x.month 12) (record { year = x.year; month = x.month + 1; day = 1 })
    (record { year = x.year + 1; month = 1; day = 1 })))

-- day 0's date
abbrev pub epoch : Date
epoch = record { year = 1520; month = 3; day = 19 }

-- day n's date: n dates after day 0's
unfoldable pub date_on : ℕ → Date
date_on zero = epoch
date_on (suc n) = next (date_on n)
