-- What the look says of a day: whether it matches, and which day the scan visits next.
-- Assumes nothing.
use Rattle.std.specs.Prelude.{Bool, cond, ℕ, ◌+◌, leb, Result, Ok, Err}
use Rattle.days.specs.Refusals.{and_then}
use Rattle.days.specs.declared.refusal.Refusal.{Refusal}
use Rattle.days.specs.declared.refusal.Refusal.TheVariants.{OutOfRange, BadEdition}
use Rattle.days.specs.Days.{last_day, pair_at}
use Rattle.integers.specs.RoundedUp.{rounded_up}
use Rattle.longitudes.specs.Longitudes.{longitude_at}
use Rattle.panchanga.specs.TrueLongitudes.{is_edition}
use Rattle.query.specs.declared.Query.{Query}
use Rattle.query.specs.Conditions.{given_arcs, in_arcs, nearest_start}
use Rattle.query.specs.Query.{sun_arcs, matches, check_of}
use Rattle.search.specs.declared.Examined.{Examined}

-- the mean Sun of day n
abbrev pub sun_on : ℕ → ℕ
sun_on n = longitude_at 0 (pair_at n)

-- the mean Sun of day n is in one of the Sun's arcs, where any are given
unfoldable pub sun_in_arcs : Query → ℕ → Bool
sun_in_arcs q n = in_arcs (sun_arcs q) (sun_on n)

-- the seconds forward from day n's mean Sun to the nearer start of the Sun's arcs that are given: paper 01's g, as
-- paper 02's L9 measures it
abbrev pub seconds_ahead : Query → ℕ → ℕ
seconds_ahead q n = nearest_start (given_arcs (sun_arcs q)) (sun_on n)

-- the most that the mean Sun advances in a day, in seconds of arc (the law `days-most` of longitudes)
abbrev pub sun_advance : ℕ
sun_advance = 3549

-- the day that the scan (paper 01's walk) visits after day n: the next one, or from outside the arcs the one g / 3549,
-- rounded up, later
unfoldable pub next_day : Query → ℕ → ℕ
next_day q n = cond (sun_in_arcs q n) (n + 1) (n + rounded_up (seconds_ahead q n) sun_advance)

-- what the look sees of day n: whether it matches, and the day that the scan visits next
abbrev pub looked : Query → ℕ → Examined
looked q n = record { matches = matches q n; next = next_day q n }

-- paper 01's look at day n: refused for the query's edition, where n is no day, or where the search refuses the query;
-- else what it sees
unfoldable pub examined_of : Query → ℕ → Result Examined Refusal
examined_of q n =
    cond (is_edition q.edition)
    (cond (leb n last_day) (and_then (check_of q) (λ (_ : Unit {0}). Ok (looked q n))) (Err OutOfRange))
    (Err BadEdition)
