-- The sheet of a month: from the bytes of the input to the bytes that are printed, a heading and a line for each of
-- thirty records, or a refusal.
-- Assumes nothing.
use Rattle.std.specs.Prelude.{List, [], ◌∷◌, ◌++◌, map, ℕ, Result, Ok, Err}
use Rattle.days.specs.declared.refusal.Refusal.{Refusal}
use Rattle.days.specs.Refusals.{refusal_number}
use Rattle.panchanga.specs.TrueLongitudes.{first_edition}
use Rattle.records.specs.declared.DayRecord.{DayRecord}
use Rattle.records.specs.Records.{month_of}
use Rattle.text.specs.Ascii.{ascii}
use Rattle.text.specs.Decimal.{digits_of}
use Rattle.text.specs.Lines.{spaced, refusal_line, whole_line}
use Rattle.text.specs.Inputs.{day_input}
use Rattle.text.specs.Sheets.{joined}

unfoldable pub month_heading : List ℕ
month_heading = ascii "day weekday sun moon apogee node mars mercury jupiter venus saturn true_sun true_moon tithi nakshatra yoga karana\n"

-- the true Sun and Moon and the elements
abbrev pub true_columns : DayRecord → List ℕ
true_columns r = r.sun ∷ r.moon ∷ r.tithi ∷ r.nakshatra ∷ r.yoga ∷ r.karana ∷ []

-- a record's numbers in the heading's order
unfoldable pub record_bytes : DayRecord → List ℕ
record_bytes r = digits_of r.day ++ (spaced (r.weekday ∷ []) ++ (spaced r.longitudes ++ (spaced (true_columns r) ++ ascii "\n")))

-- the line of a record, which may hold any numbers: whole, or refused for want of room. The law `lines-whole`: none of
-- a month's is refused
unfoldable pub record_line : DayRecord → List ℕ
record_line r = whole_line (record_bytes r)

-- the lines of a month's sheet: the heading and a line for each record, or the refusal
abbrev pub month_lines : Result (List DayRecord) Refusal → List (List ℕ)
month_lines (Ok records) = month_heading ∷ map record_line records
month_lines (Err r) = refusal_line (refusal_number r) ∷ []

-- the month that an input asks for, of the first edition; a refusal of the input is the month's
abbrev pub month_from : Result ℕ Refusal → Result (List DayRecord) Refusal
month_from (Ok first) = month_of first_edition first
month_from (Err r) = Err r

abbrev pub month_read : List ℕ → Result (List DayRecord) Refusal
month_read bs = month_from (day_input bs)

-- the lines that are printed for an input
abbrev pub month_lines_for : List ℕ → List (List ℕ)
month_lines_for input = month_lines (month_read input)

-- ALL THAT IS PRINTED for an input
abbrev pub month_printed : List ℕ → List ℕ
month_printed input = joined (month_lines_for input)
