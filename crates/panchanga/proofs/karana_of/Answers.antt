-- `karana_of` may ask for the karana: the half tithis elapsed are below 60.
use native.Mathlib.Omega.{arith}
use Rattle.longitudes.proofs.Subtraction.{is-small}
use Rattle.panchanga.proofs.karana_of.Goals as goal

pub karana_after-requires : goal.karana_after-requires
karana_after-requires c = omega (arith, is-small _ _ _ c.difference_on_circle.ensures)
