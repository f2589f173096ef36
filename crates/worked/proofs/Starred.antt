-- THE CLAIM of the starred cases: the meanings give what the paper says, by computing them.
-- Assumes nothing.
use mathlib.Core.Path.{◌≡◌, refl}
use mathlib.Core.List.{map}
use Rattle.days.specs.Days.{in_range, day_of, days_from, answer_on, answer_over, span_refusal}
use Rattle.days.specs.Refusals.{result_number, number_or_zero}
use Rattle.entries.specs.Runs.{filtered}
use Rattle.integers.specs.Integers.{floor_over, reduced}
use Rattle.civil.specs.Calendar.{leap, month_days, lost, date_exists}
use Rattle.civil.specs.Serial.{serial_of}
use Rattle.civil.proofs.Laws.{counted, by_count}
use Rattle.saka.specs.LunarDays.{lunar_day, lunar_day_with, fields_in_range, year_in_range, extra_months, elapsed_extra_months, reckoned_day, having_weekday, integer_day, answer_from, day_on}
use Rattle.longitudes.specs.Longitudes.{difference_of, table, mean_longitude, longitude_at, longitudes_at}
use Rattle.longitudes.specs.Answers.{longitudes_of}
use Rattle.panchanga.specs.TrueLongitudes.{bhuja, equation, signed, corrected, true_longitude, is_edition, true_moon}
use Rattle.panchanga.specs.Elements.{karana_after}
use Rattle.panchanga.specs.OnDays.{true_sun_at, true_moon_at, tithi_at, nakshatra_at, yoga_at, karana_at, in_edition}
use Rattle.query.specs.Conditions.{meets, weekday_met, given_arcs, in_arc, in_some, in_arcs, nearest_start, arcs_met, elements_met, numbers_in_range, elements_in_range, true_arcs_in_range, true_arcs_met, weekdays_in_range, arc_in_range, body_arcs_in_range, arcs_in_range, conditions_in_range}
use Rattle.query.specs.Query.{conditions_met, check_of}
use Rattle.search.specs.Look.{sun_in_arcs, next_day}
use Rattle.search.specs.Days.{matching_days, visited_from, visited_days}
use Rattle.search.specs.Search.{in_room, in_room_of, search_number, search_found}
use Rattle.worked.specs.Cases.{Case, starred}

pub starred-hold : map (λ (c : Case). c.found) starred ≡ map (λ (c : Case). c.said) starred
unfolding starred
starred-hold =
    simp by_count
    (unfold in_range day_of answer_on answer_over span_refusal result_number number_or_zero in_edition floor_over reduced leap month_days lost date_exists serial_of counted lunar_day lunar_day_with fields_in_range year_in_range
    extra_months elapsed_extra_months reckoned_day having_weekday integer_day answer_from day_on difference_of table mean_longitude longitude_at longitudes_at
    longitudes_of bhuja equation signed corrected true_longitude is_edition true_moon karana_after true_sun_at true_moon_at tithi_at nakshatra_at yoga_at karana_at
    meets weekday_met given_arcs in_arc in_some in_arcs nearest_start arcs_met elements_met true_arcs_met numbers_in_range weekdays_in_range arc_in_range body_arcs_in_range arcs_in_range true_arcs_in_range elements_in_range conditions_in_range conditions_met sun_in_arcs next_day
    check_of filtered days_from matching_days visited_from visited_days in_room in_room_of search_number search_found in refl)
