-- What is printed and said of an almanac file that was read.
-- Assumes nothing.
use Rattle.std.specs.Prelude.{cond, List, [], ◌∷◌, ◌++◌, map, ℕ, leb, eqb, Result, Ok, Err}
use Rattle.days.specs.Days.{last_day, days_from}
use Rattle.days.specs.declared.refusal.Refusal.{Refusal}
use Rattle.days.specs.Refusals.{bad_length, bad_checksum, bad_index, not_zero, refusal_number}
use Rattle.almanac.specs.declared.Reading.{Reading}
use Rattle.month_sheet.specs.MonthSheets.{month_heading, record_line}
use Rattle.panchanga.specs.TrueLongitudes.{first_edition}
use Rattle.records.specs.Records.{record_on}
use Rattle.text.specs.Ascii.{ascii}
use Rattle.text.specs.Decimal.{digits_of}
use Rattle.text.specs.Lines.{refusal_line}

-- what a refusal of a file says; 13 is left
unfoldable pub fault_text : ℕ → List ℕ
fault_text refusal =
    cond (eqb refusal bad_length) (ascii "the file's length is not what its first block demands\n")
    (cond (eqb refusal bad_checksum) (ascii "the checksum does not hold\n")
    (cond (eqb refusal bad_index) (ascii "the index or the number of days is not the one due\n")
    (cond (eqb refusal not_zero) (ascii "a byte that should be zero is not\n") (ascii "a day is not the one due, or its numbers are not its own\n"))))

-- the block at fault, by its number, and why
unfoldable pub fault_line : ℕ → ℕ → List ℕ
fault_line block refusal = ascii "block " ++ (digits_of block ++ (ascii ": " ++ fault_text refusal))

-- the line of day n, as a month's sheet has it; none for a number that is no day
unfoldable pub day_line : ℕ → List ℕ
day_line n = cond (leb n last_day) (record_line (record_on first_edition n)) []

-- the lines of days that were read: a month's heading and a line for each day. The law `file-line`: of a file each day
-- has its line, whole
unfoldable pub days_lines : Reading → List (List ℕ)
days_lines r = month_heading ∷ map day_line (days_from r.first r.count)

-- the lines of what was read: those, or the refusal
unfoldable pub reading_lines : Result Reading Refusal → List (List ℕ)
reading_lines (Ok r) = days_lines r
reading_lines (Err q) = refusal_line (refusal_number q) ∷ []
