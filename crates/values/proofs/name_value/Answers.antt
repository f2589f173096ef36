-- `name_value` meets its contract: the half that is named is 0 or 1. Assumes nothing.
use Rattle.std.proofs.Common.{arith, sym, ◌∙◌}
use Rattle.values.proofs.Readings.{half-few}
use Rattle.values.proofs.name_value.Goals as goal

pub in_half-read-requires : goal.in_half-read-requires
in_half-read-requires c = let few = half-few _ _ (sym c.in-Ok.is ∙ c.half_of.ensures) in omega (arith, few)
