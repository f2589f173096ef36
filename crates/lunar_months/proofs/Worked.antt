-- Worked from the meaning, by computing: the month starts of the first year, which are the same in both editions, and a
-- day on which they differ; and that day 0 has none before it.
-- Assumes nothing.
use mathlib.Core.List.{[], ◌∷◌}
use mathlib.Core.Path.{◌≡◌, refl}
use Rattle.days.specs.Days.{days_from}
use Rattle.entries.specs.Runs.{filtered}
use Rattle.integers.specs.Integers.{floor_over, reduced}
use Rattle.longitudes.specs.Longitudes.{difference_of, table, mean_longitude, longitude_at}
use Rattle.panchanga.specs.TrueLongitudes.{bhuja, equation, signed, corrected, true_longitude, is_edition, true_moon}
use Rattle.panchanga.specs.OnDays.{true_sun_at, true_moon_at, tithi_at}
use Rattle.std.specs.Prelude.{None, Ok, Err}
use Rattle.days.specs.declared.refusal.Refusal.TheVariants.{BadEdition}
use Rattle.lunar_months.specs.MonthStarts.{starts_month, month_starts, latest_or, start_on, latest_of, month_on}

pub first-year :
    month_starts 1 0 366 ∷ month_starts 2 0 366 ∷ []
    ≡ (1 ∷ 30 ∷ 59 ∷ 89 ∷ 118 ∷ 148 ∷ 177 ∷ 207 ∷ 237 ∷ 267 ∷ 296 ∷ 326 ∷ 355 ∷ []) ∷ (1 ∷ 30 ∷ 59 ∷ 89 ∷ 118 ∷ 148 ∷ 177 ∷ 207 ∷ 237 ∷ 267 ∷ 296 ∷ 326 ∷ 355 ∷ []) ∷ []
unfolding month_starts filtered days_from starts_month tithi_at true_sun_at true_moon_at true_moon true_longitude corrected signed equation bhuja difference_of longitude_at mean_longitude table floor_over reduced
first-year = refl

-- the first month that starts a day earlier in the second edition
pub editions-differ : month_starts 1 1470 20 ∷ month_starts 2 1470 20 ∷ [] ≡ (1478 ∷ []) ∷ (1477 ∷ []) ∷ []
unfolding month_starts filtered days_from starts_month tithi_at true_sun_at true_moon_at true_moon true_longitude corrected signed equation bhuja difference_of longitude_at mean_longitude table floor_over reduced
editions-differ = refl

-- the months of days of the first year, and a refusal
pub first-months :
    month_on 1 0 ∷ month_on 2 0 ∷ month_on 1 1 ∷ month_on 2 58 ∷ month_on 1 59 ∷ month_on 3 59 ∷ []
    ≡ Ok None ∷ Ok None ∷ Ok (start_on 1 1) ∷ Ok (start_on 30 2) ∷ Ok (start_on 59 3) ∷ Err BadEdition ∷ []
unfolding month_on latest_of latest_or is_edition month_starts filtered days_from starts_month tithi_at true_sun_at true_moon_at true_moon true_longitude corrected signed equation bhuja difference_of longitude_at mean_longitude table floor_over reduced
first-months = refl
