-- What only contracts of private functions speak of: where the mean Sun stands when the Sun that is meant enters a
-- sign, the signs that this one has passed, not reduced by circles, and the day on which it has passed so many.
-- Assumes nothing.
use Rattle.std.specs.Prelude.{cond, List, [], ◌∷◌, ℕ, zero, suc, ◌+◌, ◌-◌, ◌*◌, ◌/◌, ◌%◌, ltb, get_or, replicate}
use Rattle.days.specs.Days.{cycle_days}
use Rattle.integers.specs.RoundedUp.{rounded_up}
use Rattle.longitudes.specs.Longitudes.{circle}
use Rattle.zodiac.specs.declared.Sun.{Sun}
use Rattle.zodiac.specs.declared.Sun.TheVariants.{Mean, True}
use Rattle.zodiac.specs.Zodiac.{sign_seconds}

-- the seconds that the mean Sun goes in a cycle: eleven circles less the cycle's amount
abbrev pub cycle_seconds : ℕ
cycle_seconds = 11 * circle - 6551

-- the mean Sun of day n, with all its circles since the epoch
abbrev pub seconds_on : ℕ → ℕ
seconds_on n = 1258860 + n / cycle_days * cycle_seconds + n % cycle_days * 124186 / 35

-- the most seconds before a sign's start at which the mean Sun stands when the true Sun enters that sign
abbrev pub lead : ℕ
lead = 7728

-- and how many later it enters each sign, Meṣa first; the mean Sun enters each at its start
unfoldable pub delays : Sun → List ℕ
delays Mean = replicate 12 lead
delays True = 0 ∷ 1750 ∷ 5192 ∷ 9444 ∷ 13129 ∷ 15270 ∷ 15334 ∷ 13411 ∷ 10088 ∷ 6136 ∷ 2622 ∷ 361 ∷ []

-- where the mean Sun stands, with all its circles, when the Sun with the delays t has passed k signs
abbrev pub seconds_by : List ℕ → ℕ → ℕ
seconds_by t k = sign_seconds * k + get_or t (k % 12) 0 - lead

-- the whole signs from 0° to that Sun on day n, with all its circles since the epoch: one less than the mean Sun would
-- have passed with the lead, where the delay is not over
unfoldable pub passed_by : List ℕ → ℕ → ℕ
passed_by t n =
    let seconds : ℕ = seconds_on n + lead in
    let signs : ℕ = seconds / sign_seconds in
    cond (ltb (seconds % sign_seconds) (get_or t (signs % 12) 0)) (signs - 1) signs

-- the first day on which it has passed k signs, from 12 on: of the seconds from the epoch's mean Sun whole cycles, and
-- in the cycle the days for what is left, rounded up
unfoldable pub day_by : List ℕ → ℕ → ℕ
day_by t k =
    let seconds : ℕ = seconds_by t k - 1258860 in
    cycle_days * (seconds / cycle_seconds) + rounded_up (35 * (seconds % cycle_seconds)) 124186

-- these days for m signs from sign k on
unfoldable pub days_by : List ℕ → ℕ → ℕ → List ℕ
days_by t k zero = []
days_by t k (suc m) = day_by t k ∷ days_by t (suc k) m

-- the same of the Sun that is meant
abbrev pub delay_of : Sun → ℕ → ℕ
delay_of sun k = get_or (delays sun) (k % 12) 0

abbrev pub entry_at_seconds : Sun → ℕ → ℕ
entry_at_seconds sun k = seconds_by (delays sun) k

abbrev pub signs_passed : Sun → ℕ → ℕ
signs_passed sun n = passed_by (delays sun) n

abbrev pub day_passing : Sun → ℕ → ℕ
day_passing sun k = day_by (delays sun) k

abbrev pub days_passing : Sun → ℕ → ℕ → List ℕ
days_passing sun k m = days_by (delays sun) k m
