-- Rows of month starts by plain numbers, and two numbers of an answer as one.
-- Assumes nothing.
use Rattle.std.specs.Prelude.{cond, ℕ, ◌+◌, ◌*◌, ◌%◌, eqb, Result}
use Rattle.days.specs.Refusals.{accepted}
use Rattle.lunar_months.specs.declared.Months.{Months}
use Rattle.lunar_months.specs.declared.MonthRefusal.{MonthRefusal}
use Rattle.lunar_months.specs.declared.MonthNumbers.{MonthNumbers}
use Rattle.lunar_months.specs.Numbers.{row_numbers}

abbrev pub row_of : ℕ → ℕ → ℕ → Months
row_of edition turns covered = record { edition = edition; starts = turns; covered = covered }

-- the first × 2³², and the lower 32 bits of the second
abbrev pub together : ℕ → ℕ → ℕ
together high low = high * 4294967296 + low % 4294967296

-- of an extension the refusal with the number of month starts, and with the number of days covered
abbrev pub starts_together : Result Months MonthRefusal → ℕ
starts_together a = together (row_numbers a).refusal (row_numbers a).starts

abbrev pub covered_together : Result Months MonthRefusal → ℕ
covered_together a = together (row_numbers a).refusal (row_numbers a).covered

-- a month's number and its start's day; nothing where it is refused
unfoldable pub month_together : MonthNumbers → ℕ
month_together m = cond (eqb m.refusal accepted) (together m.number m.start) 0
