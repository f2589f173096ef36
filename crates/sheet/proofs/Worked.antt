-- Worked cases: paper 01's sheet, and an input for each refusal. Both sides compute, so that `refl` proves them.
-- Assumes nothing.
use mathlib.Core.Path.{◌≡◌, refl}
use mathlib.Core.List.{[], ◌∷◌}
use Rattle.integers.specs.Integers.{floor_over, reduced}
use Rattle.longitudes.specs.Longitudes.{difference_of, table, mean_longitude, longitude_at}
use Rattle.panchanga.specs.TrueLongitudes.{bhuja, equation, signed, corrected, true_longitude, true_moon}
use Rattle.panchanga.specs.Elements.{karana_after}
use Rattle.panchanga.specs.OnDays.{true_sun_at, true_moon_at, tithi_at, nakshatra_at, yoga_at, karana_at}
use Rattle.text.specs.Ascii.{ascii}
use Rattle.text.specs.Decimal.{is_digit, all_digits, with_digit, value_of, is_number, number_read, digits_within, digits_of}
use Rattle.text.specs.Lines.{spaced, refusal_line}
use Rattle.text.specs.Inputs.{is_line, input_read, day_input}
use Rattle.sheet.specs.Sheets.{sheet_heading, columns, two_lines, sheet_of}

pub printed :
    sheet_of (ascii "33649\n")
    ≡ ascii "day cycle within weekday sun moon tithi nakshatra yoga karana\n33649 8 1521 0 128648 737042 14 15 18 7\n"
unfolding sheet_of two_lines columns sheet_heading spaced day_input input_read is_line number_read is_number all_digits is_digit value_of with_digit digits_of digits_within true_sun_at true_moon_at tithi_at nakshatra_at yoga_at karana_at karana_after true_moon true_longitude corrected signed equation bhuja difference_of longitude_at mean_longitude table floor_over reduced
printed = refl

-- nothing, no digit, no newline, no number, too many digits, and no such day
pub refused :
    sheet_of (ascii "")
    ∷ sheet_of (ascii "\n")
    ∷ sheet_of (ascii "7")
    ∷ sheet_of (ascii "-7\n")
    ∷ sheet_of (ascii "0000007\n")
    ∷ sheet_of (ascii "401600\n")
    ∷ []
    ≡ ascii "refused 3\n" ∷ ascii "refused 3\n" ∷ ascii "refused 3\n" ∷ ascii "refused 3\n" ∷ ascii "refused 3\n" ∷ ascii "refused 2\n" ∷ []
unfolding sheet_of refusal_line day_input input_read is_line number_read is_number all_digits is_digit value_of with_digit digits_of digits_within
refused = refl
