-- `longitude` meets its contract: its row is the paper's, for which the rule in naturals is shown.
use native.Mathlib.Nat.{mod-lt, lt_of_lt_of_le}
use native.Mathlib.Omega.{arith}
use lib.ListN.{get_or}
use Rattle.longitudes.specs.Longitudes.{table, longitude_at, remainder_at, divisor_at}
use Rattle.longitudes.proofs.Motions.{motions, none, Reckoned, reckoned}
use Rattle.longitudes.proofs.longitude.Goals as goal
use Rattle.longitudes.proofs.longitude.Goals.{Start}

known : (c : Start) → Reckoned (get_or motions c.args.body none) c.args.day (longitude_at c.args.body c.args.day) (remainder_at c.args.body c.args.day) (divisor_at c.args.body)
known c = reckoned c.args.body c.args.day c.requires.0 c.requires.1

pub overflow_sub-turned : goal.overflow_sub-turned
unfolding table
overflow_sub-turned c = (known (goal.at.overflow_sub-turned c).Start).amount

pub overflow_mul-turned : goal.overflow_mul-turned
unfolding table
overflow_mul-turned c = omega (arith, known (goal.at.overflow_mul-turned c).Start)

pub overflow_add-turned : goal.overflow_add-turned
unfolding table
overflow_add-turned c = omega (arith, known (goal.at.overflow_add-turned c).Start)

pub overflow_mul-moved : goal.overflow_mul-moved
unfolding table
overflow_mul-moved c = omega (arith, known (goal.at.overflow_mul-moved c).Start)

pub overflow_cast-whole : goal.overflow_cast-whole
unfolding table
overflow_cast-whole c = omega (arith, known (goal.at.overflow_cast-whole c).Start)

pub nonzero_div-whole : goal.nonzero_div-whole
unfolding table
nonzero_div-whole c = omega (arith, known (goal.at.nonzero_div-whole c).Start)

pub overflow_add-whole : goal.overflow_add-whole
unfolding table
overflow_add-whole c = omega (arith, known (goal.at.overflow_add-whole c).Start)

pub nonzero_rem-remainder : goal.nonzero_rem-remainder
unfolding table
nonzero_rem-remainder c = omega (arith, known (goal.at.nonzero_rem-remainder c).Start)

pub overflow_cast-remainder : goal.overflow_cast-remainder
unfolding table
overflow_cast-remainder c = let k = known (goal.at.overflow_cast-remainder c).Start in record { fits = lt_of_lt_of_le (mod-lt _ k.divisor) (omega arith) }

pub returns : goal.returns
unfolding table
returns c = let k = known (goal.at.returns c).Start in rw (k.whole, k.left, k.over)
