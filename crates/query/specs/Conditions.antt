-- The conditions of a query: when they are in range, and when a day meets them.
-- Assumes nothing.
use Rattle.std.specs.Prelude.{Bool, true, false, cond, ◌&&◌, ◌||◌, List, [], ◌∷◌, ℕ, ◌+◌, ◌-◌, ◌/◌, ◌%◌, ◌^◌, min, leb, ltb, eqb, get_or}
use Rattle.days.specs.declared.Day.{Day}
use Rattle.days.specs.Weekdays.{bit_of, in_set, every_weekday}
use Rattle.longitudes.specs.Longitudes.{circle, longitude_at, difference_of}
use Rattle.panchanga.specs.OnDays.{true_sun_at, true_moon_at, tithi_at, nakshatra_at, yoga_at, karana_at}
use Rattle.planets.specs.OnDays.{true_planet_at}
use Rattle.query.specs.declared.Asked.{Asked}
use Rattle.query.specs.declared.Weekdays.{Weekdays}
use Rattle.query.specs.declared.Arc.{Arc}
use Rattle.query.specs.declared.BodyArcs.{BodyArcs}
use Rattle.query.specs.declared.Query.{Query}

-- no numbers asked for, no weekdays, no arc, and no arc of a body
abbrev pub not_asked : Asked
not_asked = record { given = false; set = 0 }

abbrev pub no_weekdays : Weekdays
no_weekdays = record { given = false; set = 0 }

abbrev pub no_arc : Arc
no_arc = record { given = false; start = 0; width = 0 }

abbrev pub no_arcs : BodyArcs
no_arcs = record { first = no_arc; second = no_arc }

-- one weekday alone, and one arc alone
abbrev pub only_weekday : ℕ → Weekdays
only_weekday w = record { given = true; set = bit_of w }

abbrev pub only_arc : Arc → BodyArcs
only_arc a = record { first = a; second = no_arc }

-- the bit of a number in a set of numbers; from 31 up they share one, which no element has
abbrev pub number_bit : ℕ → ℕ
number_bit n = 2 ^ min n 31

-- a set has a number
unfoldable pub has_number : ℕ → ℕ → Bool
has_number set n = eqb (set / number_bit n % 2) 1

-- a number is asked for too
unfoldable pub with_number : Asked → ℕ → Asked
with_number a n = record { given = true; set = cond (has_number a.set n) a.set (a.set + number_bit n) }

-- a number is one of those asked for, where any are given
unfoldable pub meets : Asked → ℕ → Bool
meets a n = cond a.given (has_number a.set n) true

-- a weekday is one of those that will do, where they are given
unfoldable pub weekday_met : Weekdays → ℕ → Bool
weekday_met a w = cond a.given (in_set a.set w) true

-- the arcs that are given, of one or two
abbrev pub if_given : Arc → List Arc → List Arc
if_given a others = cond a.given (a ∷ others) others

unfoldable pub given_arcs : BodyArcs → List Arc
given_arcs a = if_given a.first (if_given a.second [])

abbrev pub arcs_given : BodyArcs → Bool
arcs_given a = a.first.given || a.second.given

-- a longitude is in an arc: longitude − start, reduced by whole circles, is below the width
unfoldable pub in_arc : Arc → ℕ → Bool
in_arc a x = ltb (difference_of x a.start) a.width

-- a longitude is in one of some arcs
unfoldable pub in_some : List Arc → ℕ → Bool
in_some [] x = false
in_some (a ∷ others) x = in_arc a x || in_some others x

-- a longitude will do: where no arc is given every one, else what is in one of those given
unfoldable pub in_arcs : BodyArcs → ℕ → Bool
in_arcs a x = cond (arcs_given a) (in_some (given_arcs a) x) true

-- the seconds forward from a longitude to the nearest start of some arcs; a circle where there are none
unfoldable pub nearest_start : List Arc → ℕ → ℕ
nearest_start [] x = circle
nearest_start (a ∷ others) x = min (difference_of a.start x) (nearest_start others x)

-- a test holds for each body but the Sun, and for each of the nine
abbrev pub each_other : (ℕ → Bool) → Bool
each_other p = p 1 && (p 2 && (p 3 && (p 4 && (p 5 && (p 6 && (p 7 && p 8))))))

abbrev pub each_body : (ℕ → Bool) → Bool
each_body p = p 0 && each_other p

-- the arcs of a body
abbrev pub arcs_at : List BodyArcs → ℕ → BodyArcs
arcs_at arcs body = get_or arcs body no_arcs

-- a body's mean longitude will do
abbrev pub body_met : List BodyArcs → Day → ℕ → Bool
body_met arcs d body = in_arcs (arcs_at arcs body) (longitude_at body d)

unfoldable pub arcs_met : List BodyArcs → Day → Bool
arcs_met arcs d = each_body (body_met arcs d)

-- a day has the elements asked for, in an edition
unfoldable pub elements_met : ℕ → Asked → Asked → Asked → Asked → Day → Bool
elements_met edition tithi nakshatra yoga karana d =
    meets tithi (tithi_at edition d)
    && (meets nakshatra (nakshatra_at edition d) && (meets yoga (yoga_at edition d) && meets karana (karana_at edition d)))

-- those that a query asks for
abbrev pub query_elements_met : Query → Day → Bool
query_elements_met q d = elements_met q.edition q.tithi q.nakshatra q.yoga q.karana d

-- the true longitudes that arcs may be asked of, by their places: Sun, Moon, Mars, Mercury, Jupiter, Venus, Saturn
unfoldable pub true_longitude_at : ℕ → ℕ → Day → ℕ
true_longitude_at edition place d =
    cond (eqb place 0) (true_sun_at d) (cond (eqb place 1) (true_moon_at edition d) (true_planet_at (place - 2) d))

-- a test holds for each of the seven
abbrev pub each_place : (ℕ → Bool) → Bool
each_place p = p 0 && (p 1 && (p 2 && (p 3 && (p 4 && (p 5 && p 6)))))

-- a true longitude will do, in an edition
abbrev pub place_met : ℕ → List BodyArcs → Day → ℕ → Bool
place_met edition arcs d place = in_arcs (arcs_at arcs place) (true_longitude_at edition place d)

unfoldable pub true_arcs_met : ℕ → List BodyArcs → Day → Bool
true_arcs_met edition arcs d = each_place (place_met edition arcs d)

-- a set that is given has a number, all of them at or above a bit and below another
unfoldable pub numbers_in_range : Asked → ℕ → ℕ → Bool
numbers_in_range a least past = cond a.given (leb 1 a.set && (ltb a.set past && eqb (a.set % least) 0)) true

-- a set that is given has a number, none below the least and none above the largest
abbrev pub asked_in_range : Asked → ℕ → ℕ → Bool
asked_in_range a least largest = numbers_in_range a (2 ^ least) (2 ^ (largest + 1))

-- a set that is given has a weekday, and nothing but the seven
unfoldable pub weekdays_in_range : Weekdays → Bool
weekdays_in_range a = cond a.given (leb 1 a.set && leb a.set every_weekday) true

-- an arc that is given has a start below the circle and a width from 1 to the circle
unfoldable pub arc_in_range : Arc → Bool
arc_in_range a = cond a.given (ltb a.start circle && (leb 1 a.width && leb a.width circle)) true

unfoldable pub body_arcs_in_range : BodyArcs → Bool
body_arcs_in_range a = arc_in_range a.first && arc_in_range a.second

unfoldable pub arcs_in_range : List BodyArcs → Bool
arcs_in_range arcs = each_body (λ (body : ℕ). body_arcs_in_range (arcs_at arcs body))

unfoldable pub true_arcs_in_range : List BodyArcs → Bool
true_arcs_in_range arcs = each_place (λ (place : ℕ). body_arcs_in_range (arcs_at arcs place))

-- tithi 29, nakshatra and yoga 26 and karana 11 are the largest, and karana 1 is the least
unfoldable pub elements_in_range : Query → Bool
elements_in_range q =
    asked_in_range q.tithi 0 29
    && (asked_in_range q.nakshatra 0 26 && (asked_in_range q.yoga 0 26 && asked_in_range q.karana 1 11))

unfoldable pub conditions_in_range : Query → Bool
conditions_in_range q =
    weekdays_in_range q.weekdays && (elements_in_range q && (arcs_in_range q.arcs && true_arcs_in_range q.true_arcs))
