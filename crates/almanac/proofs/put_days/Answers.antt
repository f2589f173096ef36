-- `put_days` meets its contract: with the days left put too, the list is that with all of them.
use mathlib.Core.Path.{refl, ap, ◌∙◌}
use native.Mathlib.Omega.{arith}
use lib.ListN.{length}
use Rattle.entries.proofs.Laws.{with-entry-length}
use Rattle.almanac.proofs.Answers.{put-start, put_next, put-end}
use Rattle.almanac.proofs.put_days.Goals as goal

pub loop-index-init : goal.loop-index-init
loop-index-init c = (omega arith, refl, put-start _ _ _)

pub loop-index-preserved : goal.loop-index-preserved
loop-index-preserved c = (omega arith, ap length c.put_entry.ensures ∙ with-entry-length _ _ _ ∙ c.loop-index.invariant.1, put_next _ _ _ _ _ _ c.loop-index-test.true c.put_entry.ensures c.loop-index.invariant.2)

pub shape_of-list : goal.shape_of-list
shape_of-list c = c.loop-index.invariant.1

pub returns : goal.returns
returns c = put-end _ _ _ _ _ c.loop-index-test.false c.loop-index.invariant.2
