-- Seconds of arc as degrees in 64-bit floats, and the signed short way from a longitude to another.
-- Assumes nothing.
use Rattle.std.specs.Prelude.{true, false, cond, ℕ, suc, ltb, ℤ, pos, negsuc, neg_ℤ, Float}
use Rattle.std.specs.Float.{binary64}
use Rattle.std.specs.Float.Ieee.{round}
use Rattle.longitudes.specs.Longitudes.{difference_of}

-- z / 3600, rounded once: the 64-bit float nearest to the quotient, with z's sign
unfoldable pub degrees_of : ℤ → Float
degrees_of (pos n) = round binary64 false n 3600
degrees_of (negsuc n) = round binary64 true (suc n) 3600

-- half a circle, in seconds
abbrev pub half : ℕ
half = 648000

-- the way forwards where that is less than half a circle, else the way back, which counts as negative: half a circle is
-- backwards
unfoldable pub short_way : ℕ → ℕ → ℤ
short_way from to = cond (ltb (difference_of to from) half) (pos (difference_of to from)) (neg_ℤ (pos (difference_of from to)))
