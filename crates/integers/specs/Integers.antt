-- Whole numbers with a sign: rounding down, and reduction by whole multiples (paper 01's whole circles).
-- Assumes nothing.
use Rattle.std.specs.Prelude.{ℕ, suc, ◌-◌, ◌/◌, ◌%◌, ℤ, pos, negsuc}

-- the greatest whole number not above z / q
unfoldable pub floor_over : ℤ → ℕ → ℤ
floor_over (pos n) q = pos (n / q)
floor_over (negsuc n) q = negsuc (n / q)

-- z reduced by whole multiples of m: from 0 to m − 1
unfoldable pub reduced : ℤ → ℕ → ℕ
reduced (pos n) m = n % m
reduced (negsuc n) m = m - suc (n % m)
