-- The days of a list's entries.
-- Assumes nothing.
use Rattle.std.specs.Prelude.{List, [], ◌∷◌, ℕ, zero, suc, ◌-◌, ◌≤◌}
use Rattle.days.specs.Refusals.{number_or_zero}
use Rattle.days.specs.Days.{last_day}
use Rattle.entries.specs.Entries.{capacity, entry_at}

-- the days of n entries of a list, from entry k on
unfoldable pub entry_days : List ℕ → ℕ → ℕ → List ℕ
entry_days list k zero = []
entry_days list k (suc n) = number_or_zero (entry_at list k) ∷ entry_days list (suc k) n

-- the days of a list's entries from entry k on
abbrev pub listed_from : List ℕ → ℕ → List ℕ
listed_from list k = entry_days list k (capacity list - k)

-- each number is a day
unfoldable pub EachDay : List ℕ → Type 0
EachDay [] = Unit {0}
EachDay (d ∷ ds) = (d ≤ last_day) × EachDay ds
