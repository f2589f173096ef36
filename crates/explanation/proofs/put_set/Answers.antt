-- `put_set` meets its contract. The loop's invariant: with the numbers from this one on, the line is the whole.
-- Assumes nothing.
use mathlib.Core.Path.{refl, ◌∙◌}
use native.Mathlib.Omega.{arith}
use Rattle.explanation.proofs.Naming.{next-number, no-number-left}
use Rattle.explanation.proofs.put_set.Goals as goal

pub loop-number-init : goal.loop-number-init
loop-number-init c = refl

pub loop-number-preserved : goal.loop-number-preserved
loop-number-preserved c = rw c.put_number-made.ensures (next-number _ _ c.loop-number.number (omega arith)) ∙ c.loop-number.invariant

pub returns : goal.returns
returns c = no-number-left _ _ c.loop-number.number (omega arith) ∙ c.loop-number.invariant
