-- `forwards_to` meets its contract: a difference, with a circle put on where it would be negative. Assumes nothing.
use native.Mathlib.Omega.{arith}
use Rattle.longitudes.proofs.Subtraction.{difference-back, difference-over}
use Rattle.arms.proofs.forwards_to.Goals as goal

pub returns-then-from-to : goal.returns-then-from-to
returns-then-from-to c = (omega (arith, difference-back c.args.to c.args.from (omega arith)), omega arith)

pub returns-else-from-to : goal.returns-else-from-to
returns-else-from-to c = (omega (arith, difference-over c.args.to c.args.from (omega arith)), omega arith)
