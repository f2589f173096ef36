-- The node's rounding on two days, shown by computing: down, as of every body, where rounding towards zero or rounding
-- A × p/q first gives a second more.
-- Assumes nothing.
use mathlib.Core.Path.{◌≡◌, refl}
use Prim.Native.Nat.{◌-◌}
use Rattle.days.specs.Days.{pair_at}
use Rattle.integers.specs.Integers.{floor_over, reduced}
use Rattle.longitudes.specs.Longitudes.{circle, table, mean_longitude, longitude_at}

-- day 1: 99480 − 10876/57 is above 99289
pub node-above-zero : longitude_at 3 (pair_at 1) ≡ 99289
unfolding longitude_at table mean_longitude floor_over reduced
node-above-zero = refl

-- day 4017: 99480 − 766200 − 10876/57 is above −666911
pub node-below-zero : longitude_at 3 (pair_at 4017) ≡ circle - 666911
unfolding longitude_at table mean_longitude floor_over reduced
node-below-zero = refl
