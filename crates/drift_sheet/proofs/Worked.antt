-- Worked cases: the sheet of day 0, on which the books agree, and of each refusal. Both sides compute, so that `refl`
-- proves them.
-- Assumes nothing.
use mathlib.Core.Path.{◌≡◌, refl}
use mathlib.Core.List.{[], ◌∷◌}
use Rattle.civil.specs.Answers.{date_of_day}
use Rattle.civil.specs.Calendar.{date_on}
use Rattle.dated.specs.Dated.{date_bytes, day_bytes}
use Rattle.days.specs.Days.{days_from, answer_over}
use Rattle.integers.specs.Integers.{reduced}
use Rattle.longitudes.specs.Longitudes.{table}
use Rattle.older_motions.specs.OlderMotions.{sun_motion, moon_motion, apogee_motion, ahead_on, distance_on, largest_over, first_with}
use Rattle.older_motions.specs.Drifts.{farthest_over, drifts_over}
use Rattle.text.specs.Ascii.{ascii}
use Rattle.text.specs.Decimal.{digits_within, digits_of}
use Rattle.text.specs.Lines.{refusal_line}
use Rattle.text.specs.Sheets.{joined}
use Rattle.words.specs.Words.{name_at}
use Rattle.drift_sheet.specs.DriftSheets.{drift_heading, drift_line, drift_lines}

pub sheets :
    joined (drift_lines (drifts_over 0 0)) ∷ joined (drift_lines (drifts_over 0 401600)) ∷ joined (drift_lines (drifts_over 1 0)) ∷ []
    ≡ ascii "body numerator divisor day date\nsun 0 55227075750 0 1520-3-19\nmoon 0 187772057550 0 1520-3-19\napogee 0 11045424796 0 1520-3-19\n"
    ∷ ascii "refused 2\n"
    ∷ ascii "refused 5\n"
    ∷ []
unfolding joined drift_heading drift_line refusal_line name_at day_bytes date_bytes date_of_day date_on digits_of digits_within answer_over farthest_over distance_on ahead_on sun_motion moon_motion apogee_motion table reduced largest_over first_with days_from
sheets = refl
