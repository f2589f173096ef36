-- `Order::value` meets its contract, case by case. Assumes nothing.
use mathlib.Core.Path.{sym, ap}
use lib.Ieee.{of_bits}
use Rattle.arms.specs.Orders.{order_value}
use Rattle.arms.proofs.Order.value.Goals as goal

pub returns-in-Hold : goal.returns-in-Hold
unfolding of_bits order_value
returns-in-Hold c = sym (ap order_value c.in-Hold.is)

pub returns-in-Go : goal.returns-in-Go
unfolding order_value
returns-in-Go c = sym (ap order_value c.in-Go.is)

pub returns-in-Run : goal.returns-in-Run
unfolding order_value
returns-in-Run c = sym (ap order_value c.in-Run.is)
