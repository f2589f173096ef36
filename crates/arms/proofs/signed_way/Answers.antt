-- `signed_way` meets its contract: the way forwards, or a circle less, as signed numbers that fit. Assumes nothing.
use borrow.Author.Tests.{lt-ltb, le-ltb}
use lib.IntN.{ℤ, pos, ◌-ℤ◌}
use mathlib.Core.Path.{ap, ◌∙◌}
use mir.Syntax.{w32}
use mir.ValLaws.{to_z-of_z}
use Rattle.longitudes.specs.Longitudes.{circle}
use Rattle.arms.specs.Parts.{signed_way}
use Rattle.arms.proofs.ShortWay.{signed, fits-back}
use Rattle.arms.proofs.signed_way.Goals as goal

pub overflow_sub-result : goal.overflow_sub-result
overflow_sub-result c = fits-back _ c.requires

pub returns-then-forwards-lt-HALF : goal.returns-then-forwards-lt-HALF
unfolding signed_way
returns-then-forwards-lt-HALF c = rw (lt-ltb _ _ c.if-forwards-lt-HALF.true) (signed _ c.requires)

pub returns-else-forwards-lt-HALF : goal.returns-else-forwards-lt-HALF
unfolding signed_way
returns-else-forwards-lt-HALF c = rw (le-ltb _ _ c.if-forwards-lt-HALF.false) (to_z-of_z w32 _ (fits-back _ c.requires) ∙ ap (λ (z : ℤ). z -ℤ pos circle) (signed _ c.requires))
