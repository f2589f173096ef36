-- A query as paper 01 has it, with one weekday, one number of each element and one mean arc of each body, and its
-- meaning as paper 01 states it: for the laws that it has the same list and the same numbers as the query of today that
-- it is.
-- Assumes nothing.
use mathlib.Core.Bool.{Bool, true, false, cond, ◌&&◌}
use mathlib.Core.List.{List, [], ◌∷◌, map}
use Prim.Native.Nat.{ℕ, zero, suc, ◌+◌, ◌*◌, ◌/◌}
use lib.Dec.{leb, ltb, eqb}
use lib.ListN.{length, get_or, replicate}
use Rattle.days.specs.Refusals.{accepted, bad_condition, bad_edition}
use Rattle.days.specs.Days.{weekday_on, pair_at, refused_span_or}
use Rattle.days.specs.Weekdays.{bit_of}
use Rattle.entries.specs.Runs.{filtered}
use Rattle.integers.specs.RoundedUp.{rounded_up}
use Rattle.longitudes.specs.Longitudes.{longitude_at, difference_of}
use Rattle.query.specs.declared.Asked.{Asked}
use Rattle.query.specs.declared.Weekdays.{Weekdays}
use Rattle.query.specs.declared.Arc.{Arc}
use Rattle.query.specs.declared.Query.{Query}
use Rattle.panchanga.specs.TrueLongitudes.{is_edition}
use Rattle.panchanga.specs.OnDays.{tithi_at, nakshatra_at, yoga_at}
use Rattle.query.specs.Conditions.{not_asked, no_arc, no_arcs, only_arc, number_bit, each_body, arc_in_range}
use Rattle.search.specs.Look.{sun_on, sun_advance}
use Rattle.search.specs.Days.{span_length, span}

-- a number that is asked for, where one is given
pub record One : Type 0 where
  pub given : Bool
  pub value : ℕ

-- a number is the one asked for
unfoldable pub is_one : One → ℕ → Bool
is_one a n = cond a.given (eqb n a.value) true

-- it is at most the largest there is
unfoldable pub one_in_range : One → ℕ → Bool
one_in_range a largest = cond a.given (leb a.value largest) true

pub record Single : Type 0 where
  pub first : ℕ
  pub last : ℕ
  pub edition : ℕ
  pub weekday : One
  pub tithi : One
  pub nakshatra : One
  pub yoga : One
  pub arcs : List Arc

-- a weekday, and an element's number, as a set of one
abbrev pub weekday_of : One → Weekdays
weekday_of a = record { given = a.given; set = bit_of a.value }

abbrev pub number_of : One → Asked
number_of a = cond a.given (record { given = true; set = number_bit a.value }) not_asked

-- no number
abbrev pub not_one : One
not_one = record { given = false; value = 0 }

-- the query of today
abbrev pub query_of : Single → Query
query_of s =
    record {
      first = s.first;
      last = s.last;
      edition = s.edition;
      weekdays = weekday_of s.weekday;
      tithi = number_of s.tithi;
      nakshatra = number_of s.nakshatra;
      yoga = number_of s.yoga;
      karana = not_asked;
      arcs = map only_arc s.arcs;
      true_arcs = replicate 7 no_arcs;
    }

-- a longitude is in the arc, where one is given
unfoldable pub in_single_arc : Arc → ℕ → Bool
in_single_arc a x = cond a.given (ltb (difference_of x a.start) a.width) true

abbrev pub single_arc : Single → ℕ → Arc
single_arc s body = get_or s.arcs body no_arc

-- the Sun of day n is in its arc
abbrev pub sun_in_single : Single → ℕ → Bool
sun_in_single s n = in_single_arc (single_arc s 0) (sun_on n)

-- day n has the elements asked for
unfoldable pub single_elements : Single → ℕ → Bool
single_elements s n =
    is_one s.tithi (tithi_at s.edition (pair_at n))
    && (is_one s.nakshatra (nakshatra_at s.edition (pair_at n)) && is_one s.yoga (yoga_at s.edition (pair_at n)))

-- day n meets all conditions given
unfoldable pub single_met : Single → ℕ → Bool
single_met s n =
    each_body (λ (body : ℕ). in_single_arc (single_arc s body) (longitude_at body (pair_at n)))
    && (is_one s.weekday (weekday_on n) && single_elements s n)

-- the day that the scan visits after day n
unfoldable pub single_next : Single → ℕ → ℕ
single_next s n = cond (sun_in_single s n) (n + 1) (n + rounded_up (difference_of (single_arc s 0).start (sun_on n)) sun_advance)

-- the days that the scan visits from day d on, at most n of them
unfoldable pub single_visits : Single → ℕ → ℕ → List ℕ
single_visits s zero d = []
single_visits s (suc n) d = elim (leb d s.last) [ true ↦ d ∷ single_visits s n (single_next s d) | false ↦ [] ]

-- the days of the span with the Sun in its arc, plus four, plus two for each whole 360 days of the span
unfoldable pub single_limit : Single → ℕ
single_limit s = length (filtered (sun_in_single s) (span (query_of s))) + 4 + 2 * (span_length (query_of s) / 360)

-- tithi 29, nakshatra and yoga 26, weekday 6 are the largest, and each arc that is given has a start below the circle
-- and a width from 1 to the circle
unfoldable pub single_in_range : Single → Bool
single_in_range s =
    one_in_range s.weekday 6
    && (one_in_range s.tithi 29 && (one_in_range s.nakshatra 26 && (one_in_range s.yoga 26 && each_body (λ (body : ℕ). arc_in_range (single_arc s body)))))

-- 2 for an end of the span, 5, then 6; and before these the edition's 14
unfoldable pub single_refusal : Single → ℕ
single_refusal s =
    cond (is_edition s.edition) (refused_span_or s.first s.last (cond (single_in_range s) accepted bad_condition)) bad_edition
