-- A day as a line names it, and an angle. A number that is no day's has the date 0-0-0 and is named as day 0 is.
-- Assumes nothing.
use Rattle.std.specs.Prelude.{List, [], ◌∷◌, ◌++◌, ℕ, ◌/◌, ◌%◌}
use Rattle.civil.specs.declared.Date.{Date}
use Rattle.civil.specs.Answers.{date_or_zeros}
use Rattle.std.specs.Result.{result_unwrap_or}
use Rattle.days.specs.Days.{weekday_of, pair_at}
use Rattle.text.specs.Ascii.{ascii}
use Rattle.text.specs.Decimal.{digit_byte, digits_of}
use Rattle.words.specs.Names.{weekday_names}
use Rattle.words.specs.Words.{dash, name_at}

-- `YEAR-MONTH-DAY`
unfoldable pub date_bytes : Date → List ℕ
date_bytes x = digits_of x.year ++ (ascii "-" ++ (digits_of x.month ++ (ascii "-" ++ digits_of x.day)))

-- a number's last two and last four digits
abbrev pub two_digits : ℕ → List ℕ
two_digits n = digit_byte (n / 10 % 10) ∷ digit_byte (n % 10) ∷ []

abbrev pub four_digits : ℕ → List ℕ
four_digits n = digit_byte (n / 1000 % 10) ∷ digit_byte (n / 100 % 10) ∷ two_digits n

-- a date with zeros in front: four digits of the year, two of the month and two of the day
unfoldable pub full_date_bytes : Date → List ℕ
full_date_bytes x = four_digits x.year ++ (dash ∷ two_digits x.month ++ (dash ∷ two_digits x.day))

-- a day: its number and its date
unfoldable pub day_bytes : ℕ → List ℕ
day_bytes n = digits_of n ++ (ascii " " ++ date_bytes (date_or_zeros n))

-- and its weekday's name
unfoldable pub named_day_bytes : ℕ → List ℕ
named_day_bytes n = day_bytes n ++ (ascii " " ++ name_at weekday_names (result_unwrap_or (weekday_of (pair_at n)) 0))

-- an angle, in degrees, minutes and seconds: `D:M:S`
unfoldable pub angle_bytes : ℕ → List ℕ
angle_bytes seconds = digits_of (seconds / 3600) ++ (ascii ":" ++ (digits_of (seconds / 60 % 60) ++ (ascii ":" ++ digits_of (seconds % 60))))
