-- Two numbers of an answer in one: the refusal's times 2^32, and the other.
-- Assumes nothing.
use Rattle.std.specs.Prelude.{ℕ, ◌+◌, ◌*◌, ◌%◌, Result}
use Rattle.std.specs.Result.{result_unwrap_or}
use Rattle.days.specs.declared.refusal.Refusal.{Refusal}
use Rattle.days.specs.Refusals.{result_number, part_or_zero}
use Rattle.civil.specs.declared.Date.{Date}
use Rattle.date_lines.specs.declared.NotConverted.{NotConverted}
use Rattle.date_lines.specs.Told.{conversion_number, length_told}

abbrev pub in_one : ℕ → ℕ → ℕ
in_one refusal number = 4294967296 * refusal + number

abbrev pub day_in_one : Result ℕ Refusal → ℕ
day_in_one a = in_one (result_number a) (result_unwrap_or a 0)

-- a date as the number of its digits
abbrev pub digits : Date → ℕ
digits x = 10000 * x.year + 100 * x.month + x.day

abbrev pub date_in_one : Result Date Refusal → ℕ
date_in_one a = in_one (result_number a) (part_or_zero digits a)

-- of a length what is below 2^32
abbrev pub length_in_one : Result ℕ NotConverted → ℕ
length_in_one c = in_one (conversion_number c) (length_told c % 4294967296)
