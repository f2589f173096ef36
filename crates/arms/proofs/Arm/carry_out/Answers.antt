-- `Arm::carry_out` meets its contract: each case is the meaning's equation of that case. Assumes nothing.
use mathlib.Core.Path.{sym, ap}
use lib.Ieee.{of_bits}
use Rattle.arms.specs.Orders.{carried_out}
use Rattle.arms.proofs.Arm.carry_out.Goals as goal

pub returns-in-Hold : goal.returns-in-Hold
unfolding of_bits carried_out
returns-in-Hold c = sym (ap (carried_out c.args.self) c.in-Hold.is)

pub returns-in-Go : goal.returns-in-Go
unfolding of_bits carried_out
returns-in-Go c = sym (ap (carried_out c.args.self) c.in-Go.is)

pub returns-in-Run : goal.returns-in-Run
unfolding carried_out
returns-in-Run c = sym (ap (carried_out c.args.self) c.in-Run.is)
