-- Between what an angle and a rate lie, and where an angle is exact, in the terms of the library of floats.
-- Assumes nothing.
use Rattle.std.specs.Prelude.{Bool, false, not, ◌&&◌, ◌≡◌, ℕ, ◌%◌, T, eqb, ℤ, pos, neg_ℤ, Float}
use Rattle.std.specs.Float.{nan, inf, fin, binary64}
use Rattle.std.specs.Float.Ieee.{of_int, le, lt}
use Rattle.std.specs.Float.Ieee.Exact.{HasValue}
use Rattle.days.specs.Refusals.{accepted}
use Rattle.arms.specs.Orders.{order_refusal, Longitude}

-- neither a NaN nor an infinity nor the negative zero
unfoldable pub is_proper : Float → Bool
is_proper nan = false
is_proper (inf negative) = false
is_proper (fin negative m e) = not (negative && eqb m 0)

-- a whole number of degrees
abbrev pub whole : ℤ → Float
whole z = of_int binary64 z

-- at least low degrees and below high
pub record Between (low high : ℤ) (x : Float) : Type 0 where
  pub proper : T (is_proper x)
  pub least : T (le (whole low) x)
  pub most : T (lt x (whole high))

-- at least 0 and below 360
abbrev pub IsAngle : Float → Type 0
IsAngle x = Between (pos 0) (pos 360) x

-- where the seconds are a multiple of 225, the angle is exactly their 3600th part
abbrev pub ExactAngle : Longitude → ℕ → ℕ → Float → Type 0
ExactAngle at day body x = order_refusal day body ≡ accepted → at day body % 225 ≡ 0 → HasValue x false (at day body) 3600

-- a mean body's: at least −1 and below 14 degrees a day
abbrev pub IsRate : Float → Type 0
IsRate x = Between (neg_ℤ (pos 1)) (pos 14) x

-- a true one's: at least −2 and below 16 degrees a day
abbrev pub IsTrueRate : Float → Type 0
IsTrueRate x = Between (neg_ℤ (pos 2)) (pos 16) x
