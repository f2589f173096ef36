-- `put_days` meets its contract. The loop's invariant is `Filling`.
use Rattle.zodiac.proofs.Filling.{filling-start, filling-next, filling-end}
use Rattle.zodiac.proofs.put_days.Goals as goal

pub loop-index-init : goal.loop-index-init
loop-index-init c = filling-start _ _ _ _

pub loop-index-preserved : goal.loop-index-preserved
loop-index-preserved c = filling-next _ _ _ _ _ _ c.loop-index.invariant _ _ c.loop-index-test.true c.day_passing-day.ensures c.put_entry.ensures

pub shape_of-list : goal.shape_of-list
shape_of-list c = c.loop-index.invariant.size

pub returns : goal.returns
returns c = filling-end _ _ _ _ _ _ c.loop-index.invariant c.loop-index-test.false
