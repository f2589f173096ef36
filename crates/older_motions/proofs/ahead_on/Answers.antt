-- `ahead_on` meets its contract: what it reckons fits, and is the difference of the two longitudes. Assumes nothing.
use native.Mathlib.Omega.{arith}
use Rattle.older_motions.proofs.Reckoned.{Reckoned, reckoned}
use Rattle.older_motions.proofs.ahead_on.Goals as goal
use Rattle.older_motions.proofs.ahead_on.Goals.{Start}

known : (c : Start) → Reckoned c.args.motion c.args.day
known c = reckoned c.args.motion c.args.day c.requires.0 c.requires.1

pub overflow_mul-turned : goal.overflow_mul-turned
overflow_mul-turned c = omega (arith, known (goal.at.overflow_mul-turned c).Start)

pub overflow_mul-turned-2 : goal.overflow_mul-turned-2
overflow_mul-turned-2 c = omega (arith, known (goal.at.overflow_mul-turned-2 c).Start)

pub overflow_mul-moved : goal.overflow_mul-moved
overflow_mul-moved c = omega (arith, known (goal.at.overflow_mul-moved c).Start)

pub overflow_add-moved : goal.overflow_add-moved
overflow_add-moved c = omega (arith, known (goal.at.overflow_add-moved c).Start)

pub overflow_mul-mean : goal.overflow_mul-mean
overflow_mul-mean c = let k = known (goal.at.overflow_mul-mean c).Start in omega (arith, c.requires.0.whole)

pub overflow_mul-circles : goal.overflow_mul-circles
overflow_mul-circles c = omega (arith, known (goal.at.overflow_mul-circles c).Start)

pub overflow_mul-older : goal.overflow_mul-older
overflow_mul-older c = let k = known (goal.at.overflow_mul-older c).Start in omega (arith, c.requires.0.whole)

pub overflow_sub-circle : goal.overflow_sub-circle
overflow_sub-circle c = let k = known (goal.at.overflow_sub-circle c).Start in omega (arith, c.whole_circle-circle.ensures)

pub forwards-requires : goal.forwards-requires
forwards-requires c = let k = known (goal.at.forwards-requires c).Start in let w = c.whole_circle-circle.ensures in (omega arith, omega arith)

pub returns : goal.returns
returns c = rw (c.forwards.ensures, c.whole_circle-circle.ensures) (known (goal.at.returns c).Start).ahead
