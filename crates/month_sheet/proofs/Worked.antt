-- Worked cases: two lines of records (paper 01's day 33649, and the last day), whose numbers were worked out apart with
-- exact fractions, and an input for each refusal.
-- Both sides compute, so that `refl` proves them. Assumes nothing.
use mathlib.Core.Path.{◌≡◌, refl}
use mathlib.Core.List.{[], ◌∷◌}
use Rattle.longitudes.specs.Longitudes.{difference_of, table, mean_longitude, longitude_at, longitudes_at}
use Rattle.panchanga.specs.TrueLongitudes.{bhuja, equation, signed, corrected, true_longitude, true_moon, first_edition, is_edition}
use Rattle.panchanga.specs.Elements.{karana_after}
use Rattle.panchanga.specs.OnDays.{true_sun_at, true_moon_at, tithi_at, nakshatra_at, yoga_at, karana_at}
use Rattle.records.specs.Records.{record_on, month_of}
use Rattle.text.specs.Ascii.{ascii}
use Rattle.text.specs.Decimal.{is_digit, all_digits, with_digit, value_of, is_number, number_read, digits_within, digits_of}
use Rattle.text.specs.Lines.{spaced, refusal_line, whole_line}
use Rattle.text.specs.Inputs.{is_line, input_read, day_input}
use Rattle.text.specs.Sheets.{joined}
use Rattle.integers.specs.Integers.{floor_over, reduced}
use Rattle.month_sheet.specs.MonthSheets.{record_bytes, record_line, month_printed}

pub lines :
    record_line (record_on first_edition 33649)
    ∷ record_line (record_on first_edition 401599)
    ∷ []
    ≡ ascii "33649 0 123220 720622 1133683 159662 1079713 170089 461716 344495 1190205 128648 737042 14 15 18 7\n"
    ∷ ascii "401599 2 600219 1148216 908521 1239589 551968 581103 367898 527029 127124 592376 1131624 12 23 8 3\n"
    ∷ []
unfolding record_line record_bytes whole_line record_on spaced digits_of digits_within longitudes_at true_sun_at true_moon_at tithi_at nakshatra_at yoga_at karana_at karana_after true_moon true_longitude corrected signed equation bhuja difference_of longitude_at mean_longitude table floor_over reduced
lines = refl

-- nothing, no newline, no such day, and a month that ends behind the last day
pub refused :
    month_printed (ascii "")
    ∷ month_printed (ascii "7")
    ∷ month_printed (ascii "401600\n")
    ∷ month_printed (ascii "401571\n")
    ∷ []
    ≡ ascii "refused 3\n" ∷ ascii "refused 3\n" ∷ ascii "refused 2\n" ∷ ascii "refused 2\n" ∷ []
unfolding joined month_of is_edition refusal_line day_input input_read is_line number_read is_number all_digits is_digit value_of with_digit digits_of digits_within
refused = refl
