-- What is told of a row and of a month in numbers, which C takes.
-- Assumes nothing.
use Rattle.std.specs.Prelude.{Option, Some, None, Result, Ok, Err}
use Rattle.days.specs.declared.refusal.Refusal.{Refusal}
use Rattle.days.specs.declared.refusal.Refusal.TheVariants.{ListTooShort}
use Rattle.days.specs.Refusals.{accepted, list_too_short, refusal_number}
use Rattle.lunar_months.specs.declared.Months.{Months}
use Rattle.lunar_months.specs.declared.MonthStart.{MonthStart}
use Rattle.lunar_months.specs.declared.MonthRefusal.{MonthRefusal}
use Rattle.lunar_months.specs.declared.MonthRefusal.TheVariants.{Refused, TooShort}
use Rattle.lunar_months.specs.declared.RowNumbers.{RowNumbers}
use Rattle.lunar_months.specs.declared.MonthNumbers.{MonthNumbers}

abbrev pub why_not : MonthRefusal → Refusal
why_not (Refused r) = r
why_not (TooShort _) = ListTooShort

-- the refusal or 0, and a row's two numbers; a list that is too short is told the number of entries that would do
unfoldable pub row_numbers : Result Months MonthRefusal → RowNumbers
row_numbers (Ok row) = record { refusal = accepted; starts = row.starts; covered = row.covered }
row_numbers (Err (Refused r)) = record { refusal = refusal_number r; starts = 0; covered = 0 }
row_numbers (Err (TooShort needed)) = record { refusal = list_too_short; starts = needed; covered = 0 }

-- the refusal or 0, the latest start's day, and the number of starts; so too for a list that is too short
unfoldable pub month_numbers : Result (Option MonthStart) MonthRefusal → MonthNumbers
month_numbers (Ok (Some start)) = record { refusal = accepted; start = start.day; number = start.number }
month_numbers (Ok None) = record { refusal = accepted; start = 0; number = 0 }
month_numbers (Err (Refused r)) = record { refusal = refusal_number r; start = 0; number = 0 }
month_numbers (Err (TooShort needed)) = record { refusal = list_too_short; start = 0; number = needed }
