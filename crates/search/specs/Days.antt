-- The days of a query's span: those that match, and those that the scan visits.
-- Assumes nothing.
use Rattle.std.specs.Prelude.{true, false, List, [], ◌∷◌, ℕ, zero, suc, ◌+◌, ◌-◌, ◌*◌, ◌/◌, leb, length}
use Rattle.query.specs.declared.Query.{Query}
use Rattle.query.specs.Conditions.{given_arcs}
use Rattle.days.specs.Days.{days_from}
use Rattle.entries.specs.Runs.{filtered}
use Rattle.query.specs.Query.{sun_arcs, conditions_met}
use Rattle.search.specs.Look.{sun_in_arcs, next_day}

-- how many days the span has, both ends counted
abbrev pub span_length : Query → ℕ
span_length q = q.last + 1 - q.first

abbrev pub span : Query → List ℕ
span q = days_from q.first (span_length q)

-- paper 01's fitting days: the days of the span that meet all conditions given. Their number is the true length
unfoldable pub matching_days : Query → List ℕ
matching_days q = filtered (conditions_met q) (span q)

-- the days that the scan visits from day d on, at most n of them
unfoldable pub visited_from : Query → ℕ → ℕ → List ℕ
visited_from q zero d = []
visited_from q (suc n) d = elim (leb d q.last) [ true ↦ d ∷ visited_from q n (next_day q d) | false ↦ [] ]

-- the visited days, paper 01's walk: from the first day, each time to the next day, until past the last. Their number
-- is that of the days looked at. The bound, a visit for each day of the span, is there for the definition to end, and
-- no scan comes to it: with a larger one the days are the same, for every query that is not refused (the law
-- `bound-not-reached`)
unfoldable pub visited_days : Query → List ℕ
visited_days q = visited_from q (span_length q) q.first

-- the days of the span with the mean Sun in one of its arcs, plus for each arc that is given four, and two for each
-- whole 360 days of the span: with two arcs eight and four. Where none is given the Sun may stand anywhere, and these
-- are all days of the span
unfoldable pub visit_limit : Query → ℕ
visit_limit q = length (filtered (sun_in_arcs q) (span q)) + length (given_arcs (sun_arcs q)) * (4 + 2 * (span_length q / 360))
