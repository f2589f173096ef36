-- `steps_for` meets its contract: each case is its body, whose row is the table's. Assumes nothing.
use native.Mathlib.Omega.{arith}
use Rattle.longitudes.specs.Longitudes.{table}
use Rattle.arms.specs.Parts.{steps_of}
use Rattle.arms.proofs.Parts.{steps-for}
use Rattle.arms.proofs.steps_for.Goals as goal

pub returns-in-Sun : goal.returns-in-Sun
unfolding table steps_of
returns-in-Sun c = rw c.in-Sun.is (steps-for 0 _ (omega arith) c.steps_of.ensures (omega arith))

pub returns-in-Moon : goal.returns-in-Moon
unfolding table steps_of
returns-in-Moon c = rw c.in-Moon.is (steps-for 1 _ (omega arith) c.steps_of-in-Moon.ensures (omega arith))

pub returns-in-MoonApogee : goal.returns-in-MoonApogee
unfolding table steps_of
returns-in-MoonApogee c = rw c.in-MoonApogee.is (steps-for 2 _ (omega arith) c.steps_of-in-MoonApogee.ensures (omega arith))

pub returns-in-MoonNode : goal.returns-in-MoonNode
unfolding table steps_of
returns-in-MoonNode c = rw c.in-MoonNode.is (steps-for 3 _ (omega arith) c.steps_of-in-MoonNode.ensures (omega arith))

pub returns-in-Mars : goal.returns-in-Mars
unfolding table steps_of
returns-in-Mars c = rw c.in-Mars.is (steps-for 4 _ (omega arith) c.steps_of-in-Mars.ensures (omega arith))

pub returns-in-MercuryAnomaly : goal.returns-in-MercuryAnomaly
unfolding table steps_of
returns-in-MercuryAnomaly c = rw c.in-MercuryAnomaly.is (steps-for 5 _ (omega arith) c.steps_of-in-MercuryAnomaly.ensures (omega arith))

pub returns-in-Jupiter : goal.returns-in-Jupiter
unfolding table steps_of
returns-in-Jupiter c = rw c.in-Jupiter.is (steps-for 6 _ (omega arith) c.steps_of-in-Jupiter.ensures (omega arith))

pub returns-in-VenusAnomaly : goal.returns-in-VenusAnomaly
unfolding table steps_of
returns-in-VenusAnomaly c = rw c.in-VenusAnomaly.is (steps-for 7 _ (omega arith) c.steps_of-in-VenusAnomaly.ensures (omega arith))

pub returns-in-Saturn : goal.returns-in-Saturn
unfolding table steps_of
returns-in-Saturn c = rw c.in-Saturn.is (steps-for 8 _ (omega arith) c.steps_of-in-Saturn.ensures (omega arith))
