-- The lines of a catalogue of days, in each of the forms in which a page may ask for them.
-- Assumes nothing.
use Rattle.std.specs.Prelude.{cond, List, [], ◌∷◌, ◌++◌, ℕ, eqb, Result}
use Rattle.std.specs.Result.{result_unwrap_or}
use Rattle.civil.specs.Answers.{zeros, date_or_zeros}
use Rattle.dated.specs.Dated.{full_date_bytes, named_day_bytes}
use Rattle.days.specs.declared.refusal.Refusal.{Refusal}
use Rattle.days.specs.Days.{pair_at, weekday_on}
use Rattle.iso.specs.Calendar.{iso_date_of}
use Rattle.names.specs.declared.Kind.{Kind}
use Rattle.names.specs.declared.Kind.TheVariants.{Tithi, Nakshatra, Yoga, Karana, Weekday}
use Rattle.names.specs.declared.Print.{Print}
use Rattle.names.specs.declared.Print.TheVariants.{Numbers, Names, Csv}
use Rattle.names.specs.Columns.{padded, aligned, column_of, padded_name, quoted_name}
use Rattle.names.specs.Names.{name_of}
use Rattle.panchanga.specs.declared.Panchanga.{Panchanga}
use Rattle.panchanga.specs.TrueLongitudes.{second_edition}
use Rattle.panchanga.specs.OnDays.{panchanga_of}
use Rattle.text.specs.Ascii.{ascii}
use Rattle.text.specs.Decimal.{digits_of}
use Rattle.text.specs.Lines.{spaced}

-- the second edition is named behind the first line
unfoldable pub edition_text : ℕ → List ℕ
edition_text edition = cond (eqb edition second_edition) (ascii " edition 2") []

-- the first line: `found`, the length, `looked`, the number of days looked at
unfoldable pub counts_line : ℕ → ℕ → ℕ → List ℕ
counts_line edition length examined =
    ascii "found " ++ (digits_of length ++ (ascii " looked " ++ (digits_of examined ++ (edition_text edition ++ ascii "\n"))))

-- ---- the elements by their numbers, in the heading's order, each behind a space
unfoldable pub element_bytes : Panchanga → List ℕ
element_bytes p = spaced (p.tithi ∷ p.nakshatra ∷ p.yoga ∷ p.karana ∷ [])

-- ---- by their names, in columns with two blanks between them; the last one has no blanks behind it
abbrev pub gap : List ℕ
gap = ascii "  "

-- the widths of the first two: a day's number has six digits at most, and a date ten bytes
abbrev pub day_column : ℕ
day_column = 6

abbrev pub date_column : ℕ
date_column = 10

unfoldable pub column_heading : List ℕ
column_heading =
    aligned day_column (ascii "day")
    ++ (gap
    ++ (padded date_column (ascii "date")
    ++ (gap
    ++ (padded (column_of Weekday) (ascii "weekday")
    ++ (gap
    ++ (padded (column_of Tithi) (ascii "tithi")
    ++ (gap
    ++ (padded (column_of Nakshatra) (ascii "nakshatra")
    ++ (gap ++ (padded (column_of Yoga) (ascii "yoga") ++ (gap ++ ascii "karana\n")))))))))))

unfoldable pub named_elements : Panchanga → List ℕ
named_elements p =
    gap
    ++ (padded_name Tithi p.tithi
    ++ (gap
    ++ (padded_name Nakshatra p.nakshatra ++ (gap ++ (padded_name Yoga p.yoga ++ (gap ++ name_of Karana p.karana))))))

-- the elements that are told of a day, and zeros for a number that is no day's
abbrev pub elements_told : Result Panchanga Refusal → Panchanga
elements_told answer = result_unwrap_or answer (record { sun = 0; moon = 0; tithi = 0; nakshatra = 0; yoga = 0; karana = 0 })

-- the line of day n, with its weekday and elements: its date is the civil one, as in every form
unfoldable pub column_line : ℕ → ℕ → Panchanga → List ℕ
column_line n weekday p =
    aligned day_column (digits_of n)
    ++ (gap ++ (full_date_bytes (date_or_zeros n) ++ (gap ++ (padded_name Weekday weekday ++ (named_elements p ++ ascii "\n")))))

-- ---- by both, in a comma-separated table (RFC 4180): a line ends with a carriage return and a newline
abbrev pub line_end : List ℕ
line_end = ascii "\r\n"

unfoldable pub csv_heading : List ℕ
csv_heading =
    ascii "day,date,iso,weekday_number,weekday,tithi_number,tithi,nakshatra_number,nakshatra,yoga_number,yoga,karana_number,karana"
    ++ line_end

-- a number and its name: two fields, each behind a comma, the name in quotes
unfoldable pub csv_fields : Kind → ℕ → List ℕ
csv_fields k n = ascii "," ++ (digits_of n ++ (ascii "," ++ quoted_name k n))

unfoldable pub csv_elements : Panchanga → List ℕ
csv_elements p =
    csv_fields Tithi p.tithi
    ++ (csv_fields Nakshatra p.nakshatra ++ (csv_fields Yoga p.yoga ++ csv_fields Karana p.karana))

-- the record of day n: its number, its civil date, its ISO date, its weekday and its elements
unfoldable pub csv_line : ℕ → ℕ → Panchanga → List ℕ
csv_line n weekday p =
    digits_of n
    ++ (ascii ","
    ++ (full_date_bytes (date_or_zeros n)
    ++ (ascii "," ++ (full_date_bytes (result_unwrap_or (iso_date_of n) zeros) ++ (csv_fields Weekday weekday ++ (csv_elements p ++ line_end))))))

-- ---- THE CATALOGUE in a form: what stands above the days, and the line of day n in an edition
unfoldable pub catalogue_heading : Print → ℕ → ℕ → ℕ → List ℕ
catalogue_heading Numbers edition length examined =
    counts_line edition length examined ++ ascii "day date weekday tithi nakshatra yoga karana\n"
catalogue_heading Names edition length examined = counts_line edition length examined ++ column_heading
catalogue_heading Csv edition length examined = csv_heading

unfoldable pub day_line : Print → ℕ → ℕ → List ℕ
day_line Numbers edition n = named_day_bytes n ++ (element_bytes (elements_told (panchanga_of edition (pair_at n))) ++ ascii "\n")
day_line Names edition n = column_line n (weekday_on n) (elements_told (panchanga_of edition (pair_at n)))
day_line Csv edition n = csv_line n (weekday_on n) (elements_told (panchanga_of edition (pair_at n)))

-- what is said beside it: a comma-separated table has no place for the first line
unfoldable pub counts_said : Print → ℕ → ℕ → ℕ → List ℕ
counts_said Numbers edition length examined = []
counts_said Names edition length examined = []
counts_said Csv edition length examined = counts_line edition length examined
