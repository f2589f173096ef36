-- Worked cases: a line for each case of the answer, by numbers and by names, from the meanings. Both sides compute, so
-- that `refl` proves them. Assumes nothing.
use Prim.Native.Nat.{ℕ}
use mathlib.Core.Path.{◌≡◌, refl}
use mathlib.Core.Bool.{true}
use mathlib.Core.List.{List, [], ◌∷◌, ◌++◌, map}
use lib.ListN.{set, replicate}
use Rattle.catalogue.specs.Catalogue.{edition_text}
use Rattle.civil.specs.Calendar.{leap, month_days, same_date, next, date_on}
use Rattle.civil.specs.Answers.{date_of_day}
use Rattle.dated.specs.Dated.{date_bytes, day_bytes, angle_bytes}
use Rattle.days.specs.Days.{days_from}
use Rattle.days.specs.Weekdays.{in_set}
use Rattle.integers.specs.Integers.{floor_over, reduced}
use Rattle.longitudes.specs.Longitudes.{difference_of, table, mean_longitude, longitude_at}
use Rattle.names.specs.declared.Print.TheVariants.{Numbers as ByNumbers, Names as ByNames, Csv}
use Rattle.names.specs.Names.{name_of}
use Rattle.panchanga.specs.TrueLongitudes.{bhuja, equation, signed, corrected, true_longitude, is_edition, true_moon}
use Rattle.panchanga.specs.Elements.{karana_after}
use Rattle.panchanga.specs.OnDays.{true_sun_at, true_moon_at, tithi_at, nakshatra_at, yoga_at, karana_at}
use Rattle.planets.specs.Tables.{sighra_table, manda_table, planet_apogees, row_of, on_line, straight_line}
use Rattle.planets.specs.Steps.{within_half, sighra_size, manda_size, half_corrected, manda_anomaly, manda_corrected, second_anomaly, true_planet}
use Rattle.planets.specs.OnDays.{mean_planet, first_anomaly, true_planet_at}
use Rattle.query.specs.declared.Asked.{Asked}
use Rattle.query.specs.declared.Arc.{Arc}
use Rattle.query.specs.declared.Weekdays.{Weekdays}
use Rattle.query.specs.declared.BodyArcs.{BodyArcs}
use Rattle.query.specs.declared.Query.{Query}
use Rattle.query.specs.Conditions.{not_asked, no_weekdays, no_arcs, only_weekday, only_arc, has_number, with_number, meets, weekday_met, given_arcs, in_arc, in_some, in_arcs, true_longitude_at, numbers_in_range, weekdays_in_range, arc_in_range, body_arcs_in_range, arcs_in_range, true_arcs_in_range, elements_in_range, conditions_in_range}
use Rattle.query.specs.Query.{refusal_of}
use Rattle.reasons.specs.Conditions.{row, conditions_on, first_unmet}
use Rattle.reasons.specs.Reasons.{refusal_on, why_of}
use Rattle.text.specs.Ascii.{ascii}
use Rattle.text.specs.Decimal.{digits_within, digits_of}
use Rattle.text.specs.Lines.{refusal_line}
use Rattle.words.specs.Words.{name_at}
use Rattle.explanation.specs.Explanations.{name_in, names_in, number_in, numbers_in, element_in, elements_in, set_bytes, arc_bytes, weekdays_text, numbers_text, names_text, arcs_text, element_text, verdict_of, answer_line, explanation_of}

-- a query of a span in an edition
abbrev asking : ℕ → ℕ → ℕ → Weekdays → Asked → Asked → Asked → Asked → List BodyArcs → List BodyArcs → Query
asking first last edition weekdays tithi nakshatra yoga karana arcs others =
    record { first = first; last = last; edition = edition; weekdays = weekdays; tithi = tithi; nakshatra = nakshatra; yoga = yoga; karana = karana; arcs = arcs; true_arcs = others }

abbrev number : ℕ → Asked
number n = with_number not_asked n

abbrev arc : ℕ → ℕ → Arc
arc start width = record { given = true; start = start; width = width }

abbrev anywhere : List BodyArcs
anywhere = replicate 9 no_arcs

-- no true longitude asked for
abbrev no_true : List BodyArcs
no_true = replicate 7 no_arcs

-- the page of examples/torn-page.txt: a Monday, tithi 14, the Sun in the degree from 34
abbrev torn_page : Query
torn_page = asking 0 401599 1 (only_weekday 0) (number 14) not_asked not_asked not_asked (only_arc (arc 122400 3600) ∷ replicate 8 no_arcs) no_true

-- days 5 to 9: a tithi, a nakshatra, and in the second edition a yoga, and two arcs of Saturn
abbrev tithi14 : Query
tithi14 = asking 5 9 1 no_weekdays (number 14) not_asked not_asked not_asked anywhere no_true

abbrev nakshatra7 : Query
nakshatra7 = asking 5 9 1 no_weekdays not_asked (number 7) not_asked not_asked anywhere no_true

abbrev yoga8 : Query
yoga8 = asking 5 9 2 no_weekdays not_asked not_asked (number 8) not_asked anywhere no_true

abbrev saturn_in_two : Query
saturn_in_two = asking 5 9 2 no_weekdays not_asked not_asked not_asked not_asked (set anywhere 8 (record { first = arc 0 3600; second = arc 1295999 108000 })) no_true

-- of the whole table: sets of more than one number, a karana and behind it a Sun that the day has not, and true
-- longitudes, of the Sun that degree in which the mean Sun stands
abbrev tithis : Query
tithis = asking 0 401599 1 no_weekdays (with_number (with_number (number 29) 13) 0) not_asked not_asked not_asked anywhere no_true

abbrev karanas : Query
karanas = asking 0 401599 1 no_weekdays not_asked not_asked not_asked (with_number (number 11) 1) (only_arc (arc 0 3600) ∷ replicate 8 no_arcs) no_true

abbrev true_sun34 : Query
true_sun34 = asking 0 401599 1 no_weekdays not_asked not_asked not_asked not_asked anywhere (set no_true 0 (only_arc (arc 122400 3600)))

abbrev true_moon_in_two : Query
true_moon_in_two = asking 0 401599 2 no_weekdays not_asked not_asked not_asked not_asked anywhere (set no_true 1 (record { first = arc 737042 1; second = arc 0 1 }))

abbrev true_saturn0 : Query
true_saturn0 = asking 0 401599 1 no_weekdays not_asked not_asked not_asked not_asked anywhere (set no_true 6 (only_arc (arc 0 3600)))

pub worked :
    explanation_of ByNumbers torn_page 33649
    ∷ explanation_of ByNumbers torn_page 33650
    ∷ explanation_of ByNumbers tithi14 3
    ∷ explanation_of ByNumbers tithi14 10
    ∷ explanation_of ByNumbers tithi14 7
    ∷ explanation_of ByNumbers nakshatra7 7
    ∷ explanation_of ByNumbers yoga8 7
    ∷ explanation_of ByNumbers saturn_in_two 7
    ∷ explanation_of ByNumbers tithi14 401600
    ∷ explanation_of ByNumbers tithis 33649
    ∷ explanation_of ByNumbers karanas 33649
    ∷ explanation_of ByNumbers true_sun34 33649
    ∷ explanation_of ByNumbers true_moon_in_two 33649
    ∷ explanation_of ByNumbers true_saturn0 33649
    ∷ explanation_of ByNames torn_page 33650
    ∷ explanation_of ByNames tithis 33649
    ∷ explanation_of ByNames karanas 33649
    ∷ explanation_of ByNames yoga8 7
    ∷ explanation_of ByNames true_sun34 33649
    ∷ explanation_of ByNames tithi14 401600
    ∷ explanation_of Csv tithis 33649
    ∷ []
    ≡ ascii "33649 1612-5-14 fits\n"
    ∷ ascii "33650 1612-5-15 does not fit: weekday asked monday found tuesday\n"
    ∷ ascii "3 1520-3-22 does not fit: before the span asked from 5 1520-3-24\n"
    ∷ ascii "10 1520-3-29 does not fit: after the span asked to 9 1520-3-28\n"
    ∷ ascii "7 1520-3-26 does not fit: tithi asked 14 found 7\n"
    ∷ ascii "7 1520-3-26 does not fit: nakshatra asked 7 found 6\n"
    ∷ ascii "7 1520-3-26 does not fit: yoga asked 8 found 6 edition 2\n"
    ∷ ascii "7 1520-3-26 does not fit: saturn asked 0:0:0 1:0:0 359:59:59 30:0:0 found 285:35:2 edition 2\n"
    ∷ ascii "refused 2\n"
    ∷ ascii "33649 1612-5-14 does not fit: tithi asked 0 13 29 found 14\n"
    ∷ ascii "33649 1612-5-14 does not fit: karana asked 1 11 found 7\n"
    ∷ ascii "33649 1612-5-14 does not fit: true_sun asked 34:0:0 1:0:0 found 35:44:8\n"
    ∷ ascii "33649 1612-5-14 does not fit: true_moon asked 204:44:2 0:0:1 0:0:0 0:0:1 found 204:47:23 edition 2\n"
    ∷ ascii "33649 1612-5-14 does not fit: true_saturn asked 0:0:0 1:0:0 found 326:42:29\n"
    ∷ ascii "33650 1612-5-15 does not fit: weekday asked monday found tuesday\n"
    ∷ ascii "33649 1612-5-14 does not fit: tithi asked shukla-pratipada shukla-chaturdashi amavasya found purnima\n"
    ∷ ascii "33649 1612-5-14 does not fit: karana asked bava kimstughna found vishti\n"
    ∷ ascii "7 1520-3-26 does not fit: yoga asked shula found sukarma edition 2\n"
    ∷ ascii "33649 1612-5-14 does not fit: true_sun asked 34:0:0 1:0:0 found 35:44:8\n"
    ∷ ascii "refused 2\n"
    ∷ ascii "33649 1612-5-14 does not fit: tithi asked 0 13 29 found 14\n"
    ∷ []
unfolding edition_text date_bytes leap month_days same_date next date_on date_of_day in_set floor_over reduced difference_of table mean_longitude longitude_at bhuja equation signed corrected true_longitude is_edition true_moon karana_after true_sun_at true_moon_at tithi_at nakshatra_at yoga_at karana_at sighra_table manda_table planet_apogees row_of on_line straight_line within_half sighra_size manda_size half_corrected manda_anomaly manda_corrected second_anomaly true_planet mean_planet first_anomaly true_planet_at has_number with_number meets weekday_met given_arcs in_arc in_some in_arcs true_longitude_at numbers_in_range weekdays_in_range arc_in_range body_arcs_in_range arcs_in_range true_arcs_in_range elements_in_range conditions_in_range refusal_of row conditions_on first_unmet refusal_on why_of digits_within digits_of refusal_line name_at name_of day_bytes angle_bytes name_in names_in number_in numbers_in element_in elements_in arc_bytes weekdays_text numbers_text names_text arcs_text element_text verdict_of answer_line
worked = refl

-- a set of one is written as its number is: the thirty numbers, side by side
abbrev thirty : List ℕ
thirty = days_from 0 30

pub ones-written : map (λ (n : ℕ). set_bytes (number n).set) thirty ≡ map (λ (n : ℕ). ascii " " ++ digits_of n) thirty
unfolding days_from has_number with_number digits_within digits_of number_in numbers_in
ones-written = refl
