-- The serial numbers behind the code, by closed rules. Only private contracts speak of them; that they follow the
-- calendar is proved.
-- Assumes nothing.
use Rattle.std.specs.Prelude.{Bool, true, false, cond, ℕ, ◌+◌, ◌*◌, ◌-◌, ◌/◌, ◌%◌, ◌≤◌, ◌<◌, ltb}
use Rattle.days.specs.Days.{epoch_julian_day}
use Rattle.civil.specs.declared.Date.{Date}

-- a month counted from March as 0
abbrev pub since_march : ℕ → ℕ
since_march m = (m + 9) % 12

-- the year that began in the last March; year 0 counts as 400, so that none is below 0, and 1582 as 1982
abbrev pub march_year : ℕ → ℕ → ℕ
march_year y m = y + cond (ltb m 3) 399 400

-- the days before a year's March, by the Gregorian or the Julian rule
abbrev pub year_start : Bool → ℕ → ℕ
year_start true y = 365 * y + y / 4 - y / 100 + y / 400 + 5
year_start false y = 365 * y + y / 4

-- the serial number s falls in the year u
pub record InYear (g : Bool) (s u : ℕ) : Type 0 where
  pub from : year_start g u ≤ s
  pub until : s < year_start g (u + 1)

-- the days from 1 March to the month k, counted from March as 0: five months have 153 days, and the steps are the
-- months' lengths (the law `month-steps`)
abbrev pub before : ℕ → ℕ
before k = (153 * k + 2) / 5

-- the day, from 0, of the year that began in March
abbrev pub year_day : ℕ → ℕ → ℕ
year_day m d = before (since_march m) + (d - 1)

-- a day of a year as one number, in the dates' order: no year has 400 days
abbrev pub stamp : ℕ → ℕ → ℕ
stamp y n = 400 * y + n

-- the stamps of 4 October 1582, the day 217 of its year, and of 15 October, the day 228 of the Gregorian one
abbrev pub last_julian_stamp : ℕ
last_julian_stamp = stamp (1582 + 400) 217

abbrev pub first_gregorian_stamp : ℕ
first_gregorian_stamp = stamp (1582 + 400) 228

-- the day n of the year y is after 4 October 1582
abbrev pub gregorian : ℕ → ℕ → Bool
gregorian y n = ltb last_julian_stamp (stamp y n)

abbrev pub serial_in : ℕ → ℕ → ℕ
serial_in y n = year_start (gregorian y n) y + n

unfoldable pub serial_of : Date → ℕ
serial_of x = serial_in (march_year x.year x.month) (year_day x.month x.day)

-- the Julian Day Number of serial number 0
abbrev pub serial_start : ℕ
serial_start = 1575018

-- the serial numbers of day 0 and of 15 October 1582
abbrev pub epoch_serial : ℕ
epoch_serial = epoch_julian_day - serial_start

abbrev pub gregorian_serial : ℕ
gregorian_serial = 724143
