-- `Order::number` meets its contract, case by case. Assumes nothing.
use mathlib.Core.Path.{sym, ap}
use Rattle.arms.specs.Orders.{order_number}
use Rattle.arms.proofs.Order.number.Goals as goal

pub returns-in-Hold : goal.returns-in-Hold
unfolding order_number
returns-in-Hold c = sym (ap order_number c.in-Hold.is)

pub returns-in-Go : goal.returns-in-Go
unfolding order_number
returns-in-Go c = sym (ap order_number c.in-Go.is)

pub returns-in-Run : goal.returns-in-Run
unfolding order_number
returns-in-Run c = sym (ap order_number c.in-Run.is)
