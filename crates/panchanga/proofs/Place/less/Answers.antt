-- `less` makes a place: a difference is on the circle.
use native.Mathlib.Omega.{arith}
use Rattle.longitudes.proofs.Subtraction.{is-small}
use Rattle.panchanga.proofs.Place.less.Goals as goal

pub invariant_of-result : goal.invariant_of-result
invariant_of-result c = record { on_circle = omega (arith, is-small _ _ _ c.difference-seconds.ensures) }
