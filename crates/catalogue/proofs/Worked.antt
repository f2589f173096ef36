-- Worked lines of a catalogue in each form: day 33649, and day 2968, whose civil date is Julian and ten days before its
-- ISO date. Both sides compute, so that `refl` proves them. Assumes nothing.
use mathlib.Core.Path.{◌≡◌, refl}
use mathlib.Core.List.{[], ◌∷◌}
use Prim.Native.Nat.{ℕ}
use Rattle.civil.specs.Calendar.{leap, month_days, same_date, next, date_on}
use Rattle.civil.specs.Answers.{date_of_day}
use Rattle.dated.specs.Dated.{full_date_bytes}
use Rattle.iso.specs.Calendar.{iso_month_days, iso_next, iso_on, iso_date_of}
use Rattle.names.specs.declared.Print.TheVariants.{Numbers, Names, Csv}
use Rattle.names.specs.Columns.{padded, aligned, padded_name, quoted_name}
use Rattle.names.specs.Names.{name_of}
use Rattle.panchanga.specs.declared.Panchanga.{Panchanga}
use Rattle.text.specs.Ascii.{ascii}
use Rattle.text.specs.Decimal.{digits_within, digits_of}
use Rattle.text.specs.Lines.{spaced}
use Rattle.words.specs.Words.{name_at}
use Rattle.catalogue.specs.Catalogue.{edition_text, counts_line, element_bytes, column_heading, named_elements, column_line, csv_heading, csv_fields, csv_elements, csv_line, catalogue_heading, counts_said}

pub worked-headings :
    catalogue_heading Numbers 1 6 2311
    ∷ catalogue_heading Names 2 6 2311
    ∷ catalogue_heading Csv 2 6 2311
    ∷ counts_said Names 2 6 2311
    ∷ counts_said Csv 2 6 2311
    ∷ []
    ≡ ascii "found 6 looked 2311\nday date weekday tithi nakshatra yoga karana\n"
    ∷ ascii "found 6 looked 2311 edition 2\n   day  date        weekday    tithi                nakshatra          yoga        karana\n"
    ∷ ascii "day,date,iso,weekday_number,weekday,tithi_number,tithi,nakshatra_number,nakshatra,yoga_number,yoga,karana_number,karana\r\n"
    ∷ []
    ∷ ascii "found 6 looked 2311 edition 2\n"
    ∷ []
unfolding digits_within digits_of padded aligned edition_text counts_line column_heading csv_heading catalogue_heading counts_said
worked-headings = refl

-- the elements of both days but for the karana
abbrev elements : ℕ → Panchanga
elements karana = record { sun = 0; moon = 0; tithi = 14; nakshatra = 15; yoga = 18; karana = karana }

pub worked-lines :
    element_bytes (elements 7)
    ∷ column_line 33649 0 (elements 7)
    ∷ csv_line 33649 0 (elements 7)
    ∷ column_line 2968 0 (elements 1)
    ∷ csv_line 2968 0 (elements 1)
    ∷ []
    ≡ ascii " 14 15 18 7"
    ∷ ascii " 33649  1612-05-14  monday     purnima              vishakha           parigha     vishti\n"
    ∷ ascii "33649,1612-05-14,1612-05-14,0,\"monday\",14,\"purnima\",15,\"vishakha\",18,\"parigha\",7,\"vishti\"\r\n"
    ∷ ascii "  2968  1528-05-04  monday     purnima              vishakha           parigha     bava\n"
    ∷ ascii "2968,1528-05-04,1528-05-14,0,\"monday\",14,\"purnima\",15,\"vishakha\",18,\"parigha\",1,\"bava\"\r\n"
    ∷ []
unfolding digits_within digits_of spaced leap month_days same_date next date_on date_of_day iso_month_days iso_next iso_on iso_date_of full_date_bytes name_at name_of padded aligned padded_name quoted_name element_bytes named_elements column_line csv_fields csv_elements csv_line
worked-lines = refl
