-- Orders computed from the meaning: angles exact and not, rates forwards, backwards and where a cycle turns, the last
-- day, and the refusals in their order.
-- Assumes nothing.
use mathlib.Core.Path.{◌≡◌, refl}
use mathlib.Core.Bool.{true, false}
use mathlib.Core.List.{[], ◌∷◌}
use lib.IntN.{pos, negsuc}
use lib.Ieee.{Float, fin, round}
use Rattle.integers.specs.Integers.{floor_over, reduced}
use Rattle.longitudes.specs.Longitudes.{table, mean_longitude, longitude_at, difference_of}
use Rattle.panchanga.specs.TrueLongitudes.{bhuja, equation, signed, corrected, true_longitude, true_moon}
use Rattle.panchanga.specs.OnDays.{true_sun_at, true_moon_at}
use Rattle.planets.specs.Tables.{sighra_table, manda_table, planet_apogees, row_of, on_line, straight_line}
use Rattle.planets.specs.Steps.{within_half, sighra_size, manda_size, half_corrected, manda_anomaly, manda_corrected, second_anomaly, true_planet}
use Rattle.planets.specs.OnDays.{mean_planet, first_anomaly, true_planet_at}
use Rattle.arms.specs.Degrees.{degrees_of, short_way}
use Rattle.arms.specs.Orders.{AnswerNumbers, order_refusal, seconds_on, true_seconds_on, held, place_of, follow_of}

abbrev gone : Float → AnswerNumbers
gone angle = record { refusal = 0; order = 1; value = angle }

abbrev run : Float → AnswerNumbers
run rate = record { refusal = 0; order = 2; value = rate }

-- the Sun of day 33649 at 123220 seconds, that of day 169 at 562500 and so at 156.25 degrees; Jupiter of day 69 at 218
pub places : place_of seconds_on 33649 0 ∷ place_of seconds_on 169 0 ∷ place_of seconds_on 69 6 ∷ place_of seconds_on 401600 9 ∷ place_of seconds_on 401599 9 ∷ []
    ≡ gone (fin false 2408565738214377 (negsuc 45)) ∷ gone (fin false 625 (negsuc 1)) ∷ gone (fin false 109 (pos 1)) ∷ held 2 ∷ held 16 ∷ []
unfolding place_of order_refusal degrees_of round longitude_at table mean_longitude floor_over reduced
places = refl

-- the Sun 3548 seconds a day and the node 191 back from day 33649 on, the Moon 47444 where the first cycle turns; to
-- hold on the last day
pub follows : follow_of seconds_on 33649 0 ∷ follow_of seconds_on 33649 3 ∷ follow_of seconds_on 4015 1 ∷ follow_of seconds_on 401599 0 ∷ follow_of seconds_on 401600 9 ∷ follow_of seconds_on 401599 9 ∷ []
    ≡ run (fin false 2219273816376461 (negsuc 50)) ∷ run (fin true 7646111367357909 (negsuc 56)) ∷ run (fin false 3709527443072323 (negsuc 47)) ∷ held 0 ∷ held 2 ∷ held 16 ∷ []
unfolding follow_of order_refusal degrees_of round short_way difference_of longitude_at table mean_longitude floor_over reduced
follows = refl

-- the true Sun of day 33649 at 128648 seconds, the true Mars of day 33778 at 212400 and so at 59 degrees; the node
-- alike
pub true-places : place_of true_seconds_on 33649 0 ∷ place_of true_seconds_on 33778 4 ∷ place_of true_seconds_on 33649 3 ∷ place_of true_seconds_on 401600 9 ∷ place_of true_seconds_on 401599 9 ∷ []
    ≡ gone (fin false 5029332333871177 (negsuc 46)) ∷ gone (fin false 59 (pos 0)) ∷ place_of seconds_on 33649 3 ∷ held 2 ∷ held 16 ∷ []
unfolding place_of order_refusal degrees_of round true_seconds_on longitude_at table mean_longitude floor_over reduced difference_of true_sun_at true_moon_at true_moon true_longitude equation bhuja signed corrected true_planet_at mean_planet first_anomaly row_of sighra_table manda_table planet_apogees on_line straight_line within_half sighra_size manda_size half_corrected manda_anomaly manda_corrected second_anomaly true_planet
true-places = refl

-- Mars turns back on day 33830: 178 seconds forwards to it, and 926 back from it; the Moon 48736 a day; to hold on the
-- last day
pub true-follows : follow_of true_seconds_on 33829 4 ∷ follow_of true_seconds_on 33830 4 ∷ follow_of true_seconds_on 33649 1 ∷ follow_of true_seconds_on 401599 4 ∷ follow_of true_seconds_on 401600 9 ∷ follow_of true_seconds_on 401599 9 ∷ []
    ≡ run (fin false 3562847705208659 (negsuc 55)) ∷ run (fin true 1158425904151411 (negsuc 51)) ∷ run (fin false 7621091369428073 (negsuc 48)) ∷ held 0 ∷ held 2 ∷ held 16 ∷ []
unfolding follow_of order_refusal degrees_of round short_way true_seconds_on longitude_at table mean_longitude floor_over reduced difference_of true_sun_at true_moon_at true_moon true_longitude equation bhuja signed corrected true_planet_at mean_planet first_anomaly row_of sighra_table manda_table planet_apogees on_line straight_line within_half sighra_size manda_size half_corrected manda_anomaly manda_corrected second_anomaly true_planet
true-follows = refl
