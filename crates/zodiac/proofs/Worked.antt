-- Numbers worked from the meaning: the entries of the first year by each Sun, by computing, and how many there are on
-- all days, by the law of the count.
-- Assumes nothing.
use mathlib.Core.Path.{◌≡◌, refl}
use mathlib.Core.List.{[], ◌∷◌}
use native.Mathlib.Omega.{arith}
use lib.ListN.{length}
use Rattle.days.specs.Days.{days_from}
use Rattle.entries.specs.Runs.{filtered}
use Rattle.integers.specs.Integers.{floor_over, reduced}
use Rattle.longitudes.specs.Longitudes.{table, mean_longitude, longitude_at, difference_of}
use Rattle.panchanga.specs.TrueLongitudes.{bhuja, equation, signed, corrected, true_longitude}
use Rattle.panchanga.specs.OnDays.{true_sun_at}
use Rattle.zodiac.specs.declared.Sun.TheVariants.{Mean, True}
use Rattle.zodiac.specs.Zodiac.{sun_at, enters_on, sign_entries}
use Rattle.zodiac.specs.Passed.{delays, passed_by}
use Rattle.zodiac.proofs.Entering.{entries-count}

pub first-year : sign_entries Mean 0 365 ≡ 11 ∷ 41 ∷ 72 ∷ 102 ∷ 133 ∷ 163 ∷ 194 ∷ 224 ∷ 254 ∷ 285 ∷ 315 ∷ 346 ∷ []
unfolding sign_entries filtered days_from enters_on sun_at longitude_at table mean_longitude floor_over reduced
first-year = refl

pub first-true-year : sign_entries True 0 365 ≡ 9 ∷ 40 ∷ 71 ∷ 103 ∷ 134 ∷ 165 ∷ 196 ∷ 226 ∷ 255 ∷ 284 ∷ 314 ∷ 344 ∷ []
unfolding sign_entries filtered days_from enters_on sun_at true_sun_at true_longitude corrected signed equation bhuja difference_of longitude_at table mean_longitude floor_over reduced
first-true-year = refl

pub all-days : length (sign_entries Mean 0 401599) ≡ 13194
unfolding passed_by delays
all-days = entries-count Mean 0 401599 (omega arith)

pub all-true-days : length (sign_entries True 0 401599) ≡ 13194
unfolding passed_by delays
all-true-days = entries-count True 0 401599 (omega arith)
