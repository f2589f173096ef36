-- The days on which a lunar month starts: paper 02's month turns.
-- Assumes nothing.
use Rattle.std.specs.Prelude.{Bool, cond, not, ◌&&◌, List, [], ◌∷◌, ℕ, ◌+◌, ◌-◌, ltb, eqb, leb, length, Option, Some, None, Result, Ok, Err}
use Rattle.days.specs.Days.{last_day, pair_at, days_from}
use Rattle.days.specs.declared.refusal.Refusal.{Refusal}
use Rattle.days.specs.declared.refusal.Refusal.TheVariants.{OutOfRange, BadEdition}
use Rattle.entries.specs.Runs.{filtered}
use Rattle.panchanga.specs.TrueLongitudes.{is_edition}
use Rattle.panchanga.specs.OnDays.{tithi_at}
use Rattle.lunar_months.specs.declared.MonthStart.{MonthStart}

-- the tithi of day n at sunrise, in the edition e
abbrev pub tithi_on : ℕ → ℕ → ℕ
tithi_on e n = tithi_at e (pair_at n)

-- A MONTH STARTS on a day whose tithi is smaller than the day before's; day 0 is not counted
unfoldable pub starts_month : ℕ → ℕ → Bool
starts_month e n = not (eqb n 0) && ltb (tithi_on e n) (tithi_on e (n - 1))

-- THE MONTH STARTS among m days from day n on, earliest first
unfoldable pub month_starts : ℕ → ℕ → ℕ → List ℕ
month_starts e n m = filtered (starts_month e) (days_from n m)

-- the last day of a list, or x where it has none
unfoldable pub latest_or : ℕ → List ℕ → ℕ
latest_or x [] = x
latest_or x (d ∷ ds) = latest_or d ds

-- so many month starts, the latest on that day
abbrev pub start_on : ℕ → ℕ → Option MonthStart
start_on day number = Some (record { day = day; number = number })

-- of a list of month starts the latest one and how many there are, or that there is none
unfoldable pub latest_of : List ℕ → Option MonthStart
latest_of [] = None
latest_of (d ∷ ds) = start_on (latest_or d ds) (length (d ∷ ds))

-- THE MONTH OF A DAY: the latest month start at or before it, and how many there were up to it; 14 for another edition,
-- then 2 for a number that is no day's
unfoldable pub month_on : ℕ → ℕ → Result (Option MonthStart) Refusal
month_on e n = cond (is_edition e) (cond (leb n last_day) (Ok (latest_of (month_starts e 0 (n + 1)))) (Err OutOfRange)) (Err BadEdition)
