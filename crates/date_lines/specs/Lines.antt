-- A line for a day, with its newline: its ISO date, or its number. What is read from it, and what is written.
-- Assumes nothing.
use Rattle.std.specs.Prelude.{Bool, cond, ◌&&◌, List, [], ◌∷◌, ◌++◌, ℕ, ◌/◌, ◌%◌, eqb, length, get_or, Result, Err}
use Rattle.days.specs.declared.refusal.Refusal.{Refusal}
use Rattle.days.specs.declared.refusal.Refusal.TheVariants.{BadLine}
use Rattle.days.specs.Refusals.{bad_input, result_number}
use Rattle.text.specs.Decimal.{all_digits, value_of, digits_of}
use Rattle.text.specs.Lines.{newline}
use Rattle.text.specs.Inputs.{day_input}
use Rattle.words.specs.Words.{dash}
use Rattle.civil.specs.declared.Date.{Date}
use Rattle.dated.specs.Dated.{full_date_bytes}
use Rattle.iso.specs.Calendar.{iso_on, iso_day_of}
use Rattle.date_lines.specs.declared.Kind.{Kind}
use Rattle.date_lines.specs.declared.Kind.TheVariants.{Dates, Days}

-- the places of a date's four, two and two digits
abbrev pub date_digits : List ℕ → List ℕ
date_digits l = get_or l 0 0 ∷ get_or l 1 0 ∷ get_or l 2 0 ∷ get_or l 3 0 ∷ get_or l 5 0 ∷ get_or l 6 0 ∷ get_or l 8 0 ∷ get_or l 9 0 ∷ []

-- exactly four, two and two digits with two hyphens, and the newline
unfoldable pub is_date_line : List ℕ → Bool
is_date_line l = eqb (length l) 11 && eqb (get_or l 4 0) dash && eqb (get_or l 7 0) dash && eqb (get_or l 10 0) newline && all_digits (date_digits l)

-- the date whose digits, one behind another, are a number
abbrev pub date_in : ℕ → Date
date_in n = record { year = n / 10000; month = n / 100 % 100; day = n % 100 }

-- the day of a line of a date: 15 where it is of another form, then 1 and 2
unfoldable pub date_read : List ℕ → Result ℕ Refusal
date_read l = cond (is_date_line l) (iso_day_of (date_in (value_of (date_digits l)))) (Err BadLine)

-- the day of a line of a number, 1 to 6 digits: 15 where it is of another form, then 2
unfoldable pub number_line_read : List ℕ → Result ℕ Refusal
number_line_read l = cond (eqb (result_number (day_input l)) bad_input) (Err BadLine) (day_input l)

-- the date with zeros in front, and its newline
unfoldable pub date_line : Date → List ℕ
date_line x = full_date_bytes x ++ (newline ∷ [])

-- by the kind of the lines
unfoldable pub line_read : Kind → List ℕ → Result ℕ Refusal
line_read Dates l = date_read l
line_read Days l = number_line_read l

unfoldable pub line_of : Kind → ℕ → List ℕ
line_of Dates d = date_line (iso_on d)
line_of Days d = digits_of d ++ (newline ∷ [])
