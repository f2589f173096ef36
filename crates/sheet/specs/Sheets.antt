-- The day sheet: from the bytes of the input to the bytes that are printed, paper 01's two lines or its refusal.
-- Assumes nothing.
use Rattle.std.specs.Prelude.{List, [], ◌∷◌, ◌++◌, ℕ, Result, Ok, Err}
use Rattle.days.specs.declared.Day.{Day}
use Rattle.days.specs.declared.refusal.Refusal.{Refusal}
use Rattle.days.specs.Refusals.{refusal_number}
use Rattle.days.specs.Days.{pair_at, weekday_on}
use Rattle.panchanga.specs.TrueLongitudes.{first_edition}
use Rattle.panchanga.specs.OnDays.{true_sun_at, true_moon_at, tithi_at, nakshatra_at, yoga_at, karana_at}
use Rattle.text.specs.Ascii.{ascii}
use Rattle.text.specs.Decimal.{digits_of}
use Rattle.text.specs.Lines.{spaced, refusal_line}
use Rattle.text.specs.Inputs.{day_input}

unfoldable pub sheet_heading : List ℕ
sheet_heading = ascii "day cycle within weekday sun moon tithi nakshatra yoga karana\n"

-- what the sheet has after a day's number, in the heading's order; the sheet is of the first edition
unfoldable pub columns : ℕ → List ℕ
columns n =
    let d : Day = pair_at n in
    d.cycle
    ∷ d.within
    ∷ weekday_on n
    ∷ true_sun_at d
    ∷ true_moon_at first_edition d
    ∷ tithi_at first_edition d
    ∷ nakshatra_at first_edition d
    ∷ yoga_at first_edition d
    ∷ karana_at first_edition d
    ∷ []

-- the two lines of day n
unfoldable pub two_lines : ℕ → List ℕ
two_lines n = sheet_heading ++ (digits_of n ++ (spaced (columns n) ++ ascii "\n"))

-- what is printed for a day that was read, or was refused
abbrev pub sheet_for : Result ℕ Refusal → List ℕ
sheet_for (Ok n) = two_lines n
sheet_for (Err r) = refusal_line (refusal_number r)

-- what is printed for an input
unfoldable pub sheet_of : List ℕ → List ℕ
sheet_of bs = sheet_for (day_input bs)
