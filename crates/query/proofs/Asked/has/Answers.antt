-- `Asked::has` meets its contract: the bit at the number's place is the meaning's.
use native.Mathlib.Omega.{arith}
use Rattle.query.specs.Conditions.{has_number}
use Rattle.query.proofs.Asked.has.Goals as goal

pub overflow_shr-result : goal.overflow_shr-result
overflow_shr-result c = omega (arith, c.place_of-place.ensures)

pub returns : goal.returns
unfolding has_number
returns c = rw c.place_of-place.ensures
