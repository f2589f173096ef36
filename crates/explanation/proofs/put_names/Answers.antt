-- `put_names` meets its contract. The loop's invariant: with the names from this weekday on, the line is the whole.
-- Assumes nothing.
use mathlib.Core.Path.{refl, ◌∙◌}
use native.Mathlib.Omega.{arith}
use Rattle.explanation.proofs.Naming.{next-name, no-name-left}
use Rattle.explanation.proofs.put_names.Goals as goal

pub loop-weekday-init : goal.loop-weekday-init
loop-weekday-init c = refl

pub loop-weekday-preserved : goal.loop-weekday-preserved
loop-weekday-preserved c = rw c.put_name-made.ensures (next-name _ _ c.loop-weekday.weekday (omega arith)) ∙ c.loop-weekday.invariant

pub returns : goal.returns
returns c = no-name-left _ _ c.loop-weekday.weekday (omega arith) ∙ c.loop-weekday.invariant
