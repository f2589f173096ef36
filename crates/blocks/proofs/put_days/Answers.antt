-- `put_days` meets its contract: with the days left put too, the bytes are those with all of them.
use mathlib.Core.Path.{refl, ap, ◌∙◌}
use native.Mathlib.Omega.{arith}
use lib.ListN.{length}
use Rattle.entries.proofs.Putting.{put-length}
use Rattle.blocks.proofs.Steps.{days-start, days-again, days-end, day-long}
use Rattle.blocks.proofs.put_days.Goals as goal

pub loop-place-init : goal.loop-place-init
loop-place-init c = (omega arith, refl, days-start _ _ _)

pub put_numbers-requires : goal.put_numbers-requires
put_numbers-requires c = (omega arith, ap length c.day_numbers-numbers.ensures ∙ day-long _)

pub loop-place-preserved : goal.loop-place-preserved
loop-place-preserved c = (omega arith, ap length c.put_numbers.ensures ∙ put-length _ _ _ ∙ c.loop-place.invariant.1, days-again _ _ _ _ _ _ _ c.loop-place-test.true c.day_numbers-numbers.ensures c.put_numbers.ensures c.loop-place.invariant.2)

pub shape_of-block : goal.shape_of-block
shape_of-block c = c.loop-place.invariant.1

pub returns : goal.returns
returns c = days-end _ _ _ _ _ c.loop-place-test.false c.loop-place.invariant.2
