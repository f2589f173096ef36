-- The five planets of day 33649, by computing their meaning. The numbers were worked out apart, with exact fractions;
-- docs/rules.md has Jupiter's step by step.
-- Assumes nothing.
use mathlib.Core.List.{[], ◌∷◌}
use mathlib.Core.Path.{◌≡◌, refl}
use Rattle.days.specs.Days.{pair_at}
use Rattle.integers.specs.Integers.{floor_over, reduced}
use Rattle.longitudes.specs.Longitudes.{difference_of, table, mean_longitude, longitude_at}
use Rattle.panchanga.specs.TrueLongitudes.{bhuja, signed, corrected}
use Rattle.planets.specs.Tables.{sighra_table, manda_table, planet_apogees, row_of, on_line, straight_line}
use Rattle.planets.specs.Steps.{within_half, sighra_size, manda_size, half_corrected, manda_anomaly, manda_corrected, second_anomaly, true_planet}
use Rattle.planets.specs.OnDays.{mean_planet, first_anomaly, true_planet_at, true_planets_at}

pub five-worked : true_planets_at (pair_at 33649) ≡ 1209363 ∷ 169438 ∷ 439788 ∷ 260144 ∷ 1176149 ∷ []
five-worked =
    unfold floor_over reduced difference_of table mean_longitude longitude_at bhuja signed corrected sighra_table manda_table planet_apogees row_of on_line straight_line
    within_half sighra_size manda_size half_corrected manda_anomaly manda_corrected second_anomaly true_planet mean_planet first_anomaly true_planet_at true_planets_at in refl
