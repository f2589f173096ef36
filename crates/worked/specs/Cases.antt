-- The cases that paper 01 marks with a star ("Days on both sides"), in its order. Each has what the meanings give and,
-- in the same order, what the paper says.
-- Assumes nothing.
use Rattle.std.specs.Prelude.{true, false, List, [], ◌∷◌, ◌++◌, ℕ, ◌-◌, length, replicate, Result, Ok, Err}
use Rattle.days.specs.Days.{weekday_on, pair_at, day_of}
use Rattle.days.specs.declared.Day.{Day}
use Rattle.days.specs.declared.refusal.Refusal.{Refusal}
use Rattle.days.specs.Refusals.{result_number, number_or_zero, part_or_zero}
use Rattle.civil.specs.Answers.{day_of_date}
use Rattle.saka.specs.LunarDays.{lunar_day}
use Rattle.longitudes.specs.Longitudes.{longitude_at}
use Rattle.longitudes.specs.declared.MeanLongitudes.{MeanLongitudes}
use Rattle.longitudes.specs.Answers.{longitudes_of}
use Rattle.panchanga.specs.declared.Panchanga.{Panchanga}
use Rattle.panchanga.specs.TrueLongitudes.{first_edition}
use Rattle.panchanga.specs.OnDays.{panchanga_of}
use Rattle.query.specs.declared.Query.{Query}
use Rattle.query.specs.Conditions.{not_asked, no_weekdays, only_arc, no_arcs}
use Rattle.search.specs.Look.{sun_on}
use Rattle.search.specs.Days.{matching_days, visited_days}
use Rattle.search.specs.Search.{searched_of, search_number, search_found}

-- what the meanings give, and what the paper says
pub record Case : Type 0 where
  pub found : List ℕ
  pub said : List ℕ

-- an answer: the refusal's number or 0, then the value
abbrev pub answer : Result ℕ Refusal → List ℕ
answer a = result_number a ∷ number_or_zero a ∷ []

-- the day of a civil date
abbrev pub date : ℕ → ℕ → ℕ → Result ℕ Refusal
date y m d = day_of_date (record { year = y; month = m; day = d })

-- its pair: the refusal's number or 0, the cycle, the day within it
abbrev pub pair : Result ℕ Refusal → List ℕ
pair a = let d = day_of (number_or_zero a) in result_number a ∷ part_or_zero (λ (e : Day). e.cycle) d ∷ part_or_zero (λ (e : Day). e.within) d ∷ []

-- its weekday, 0 Monday to 6 Sunday
abbrev pub weekday : Result ℕ Refusal → ℕ
weekday a = weekday_on (number_or_zero a)

-- the day of a Saka lunar date, paper 02's mark not set
abbrev pub saka : ℕ → ℕ → ℕ → ℕ → List ℕ
saka year months tithis w = answer (lunar_day (record { year = year; months = months; tithis = tithis; weekday = w; leap_month_pending = false }))

-- true Sun, true Moon, tithi, nakshatra, yoga, karana
abbrev pub elements : Result Panchanga Refusal → List ℕ
elements (Ok p) = p.sun ∷ p.moon ∷ p.tithi ∷ p.nakshatra ∷ p.yoga ∷ p.karana ∷ []
elements (Err refusal) = []

-- the nine mean longitudes
abbrev pub nine : Result MeanLongitudes Refusal → List ℕ
nine (Ok found) = found.longitudes
nine (Err refusal) = []

-- days 0 to 729, Sun's arc from 0, width 3600
abbrev pub two_years : Query
two_years =
    record {
      first = 0;
      last = 729;
      edition = first_edition;
      weekdays = no_weekdays;
      tithi = not_asked;
      nakshatra = not_asked;
      yoga = not_asked;
      karana = not_asked;
      arcs = only_arc (record { given = true; start = 0; width = 3600 }) ∷ replicate 8 no_arcs;
      true_arcs = replicate 7 no_arcs;
    }

-- a search with room for so many days, by its answer: the result, the number of matching days, the number of days
-- examined
abbrev pub search : Query → ℕ → List ℕ
search q room = let a = searched_of q room in search_number a ∷ (search_found a).length ∷ (search_found a).examined ∷ []

unfoldable pub starred : List Case
starred =
    -- 19 March 1520: day 0
    record { found = answer (date 1520 3 19); said = 0 ∷ 0 ∷ [] }
    -- places of K
    ∷ record { found = nine (longitudes_of (pair_at 0)); said = 1258860 ∷ 1256760 ∷ 603180 ∷ 99480 ∷ 1105680 ∷ 970380 ∷ 764160 ∷ 828540 ∷ 1027260 ∷ [] }
    -- true Sun 1266701, true Moon 1257257, tithi 29, nakshatra 26, yoga 25, karana 10
    ∷ record { found = elements (panchanga_of first_edition (pair_at 0)); said = 1266701 ∷ 1257257 ∷ 29 ∷ 26 ∷ 25 ∷ 10 ∷ [] }
    -- 18 March 1520: 2 (in the same line of the paper, without a star of its own)
    ∷ record { found = answer (date 1520 3 18); said = 2 ∷ 0 ∷ [] }
    -- 4 October 1582: day 22844
    ∷ record { found = answer (date 1582 10 4); said = 0 ∷ 22844 ∷ [] }
    -- 15 October 1582: 22845, Friday
    ∷ record { found = answer (date 1582 10 15) ++ (weekday (date 1582 10 15) ∷ []); said = 0 ∷ 22845 ∷ 4 ∷ [] }
    -- 10 October 1582: 1
    ∷ record { found = answer (date 1582 10 10); said = 1 ∷ 0 ∷ [] }
    -- 1 January 2000: cycle 43, day 2541, Saturday
    ∷ record { found = pair (date 2000 1 1) ++ (weekday (date 2000 1 1) ∷ []); said = 0 ∷ 43 ∷ 2541 ∷ 5 ∷ [] }
    -- 13 October 2619: day 401599, Wednesday
    ∷ record { found = answer (date 2619 10 13) ++ (weekday (date 2619 10 13) ∷ []); said = 0 ∷ 401599 ∷ 2 ∷ [] }
    -- 14 October 2619: 2
    ∷ record { found = answer (date 2619 10 14); said = 2 ∷ 0 ∷ [] }
    -- day 4015: mean Sun 1248768; day 4016: 1252309, an advance of 3541
    ∷ record { found = sun_on 4015 ∷ sun_on 4016 ∷ (sun_on 4016 - sun_on 4015) ∷ []; said = 1248768 ∷ 1252309 ∷ 3541 ∷ [] }
    -- Saka 1534, 1 month, 14 tithis, Monday: day 33649
    ∷ record { found = saka 1534 1 14 0; said = 0 ∷ 33649 ∷ [] }
    -- 14 May 1612
    ∷ record { found = answer (date 1612 5 14); said = 0 ∷ 33649 ∷ [] }
    -- mean Sun 123220, Moon 720622, apogee 1133683
    ∷ record { found = (let d = pair_at 33649 in longitude_at 0 d ∷ longitude_at 1 d ∷ longitude_at 2 d ∷ []); said = 123220 ∷ 720622 ∷ 1133683 ∷ [] }
    -- Saka 1442, 0, 0: Monday 0
    ∷ record { found = saka 1442 0 0 0; said = 0 ∷ 0 ∷ [] }
    -- Sunday 2
    ∷ record { found = saka 1442 0 0 6; said = 2 ∷ 0 ∷ [] }
    -- Tuesday 1
    ∷ record { found = saka 1442 0 0 1; said = 0 ∷ 1 ∷ [] }
    -- Wednesday refused with 4
    ∷ record { found = saka 1442 0 0 2; said = 4 ∷ 0 ∷ [] }
    -- days 0 to 729, Sun's arc from 0, width 3600: list 11, 376
    ∷ record { found = matching_days two_years; said = 11 ∷ 376 ∷ [] }
    -- looked at 0, 11, 12, 376, 377
    ∷ record { found = visited_days two_years; said = 0 ∷ 11 ∷ 12 ∷ 376 ∷ 377 ∷ [] }
    -- so 5, with room for the two days
    ∷ record { found = search two_years 2; said = 0 ∷ 2 ∷ 5 ∷ [] }
    -- room for one: 7 with 2 and 5
    ∷ record { found = search two_years 1; said = 7 ∷ 2 ∷ 5 ∷ [] }
    ∷ []
