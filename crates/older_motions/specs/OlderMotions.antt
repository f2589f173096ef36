-- The older books' motions of the Sun, the Moon and the Moon's apogee (document 000), from the same longitudes at the
-- epoch, and how far the exact mean longitudes are from them (paper 02, L12).
-- Every longitude is counted in parts of a second, so many to the second as the divisor says: nothing is rounded.
-- Assumes nothing.
use Rattle.std.specs.Prelude.{true, false, List, [], ◌∷◌, ℕ, ◌+◌, ◌*◌, ◌-◌, ◌/◌, ◌%◌, min, max, eqb, ℤ, pos, ◌-ℤ◌, ◌*ℤ◌, get_or}
use Rattle.days.specs.Days.{cycle_days}
use Rattle.integers.specs.Integers.{reduced}
use Rattle.longitudes.specs.Longitudes.{circle, Row, no_row, table, exact_times_q}

-- a body's row of the mean longitudes, and the older motion: so many circles in so many days
pub record OlderMotion : Type 0 where
  pub row : Row
  pub circles : ℕ
  pub days : ℕ

unfoldable pub sun_motion : OlderMotion
sun_motion = record { row = get_or table 0 no_row; circles = 4320000; days = 1577916450 }

unfoldable pub moon_motion : OlderMotion
moon_motion = record { row = get_or table 1 no_row; circles = 57753300; days = 1577916450 }

unfoldable pub apogee_motion : OlderMotion
apogee_motion = record { row = get_or table 2 no_row; circles = 488203; days = 1577917828 }

-- the parts of a second: q times the days
abbrev pub divisor_of : OlderMotion → ℕ
divisor_of m = m.row.q * m.days

-- the parts of a circle
abbrev pub whole_circle : OlderMotion → ℕ
whole_circle m = circle * divisor_of m

-- the exact mean longitude of day n, K − C × D + A × p/q
abbrev pub mean_exact : OlderMotion → ℕ → ℤ
mean_exact m n = exact_times_q m.row (n / cycle_days) (n % cycle_days) *ℤ pos m.days

-- the older motion's, K + n × circles / days circles
abbrev pub older_exact : OlderMotion → ℕ → ℤ
older_exact m n = pos ((m.row.K * m.days + n * m.circles * circle) * m.row.q)

-- how far the mean longitude of day n is ahead of the older one, reduced by whole circles
unfoldable pub ahead_on : OlderMotion → ℕ → ℕ
ahead_on m n = reduced (mean_exact m n -ℤ older_exact m n) (whole_circle m)

-- of two longitudes on a circle, the first of which is so far ahead: the short way round
abbrev pub shorter_way : ℕ → ℕ → ℕ
shorter_way whole ahead = min ahead (whole - ahead)

unfoldable pub distance_on : OlderMotion → ℕ → ℕ
distance_on m n = shorter_way (whole_circle m) (ahead_on m n)

-- the largest of the days' values
unfoldable pub largest_over : (ℕ → ℕ) → List ℕ → ℕ
largest_over f [] = 0
largest_over f (d ∷ ds) = max (f d) (largest_over f ds)

-- the first of the days that has the value x
unfoldable pub first_with : (ℕ → ℕ) → ℕ → List ℕ → ℕ
first_with f x [] = 0
first_with f x (d ∷ ds) = elim (eqb (f d) x) [ true ↦ d | false ↦ first_with f x ds ]
