-- `days_in` meets its contract, case by case.
use native.Mathlib.Omega.{arith}
use Rattle.blocks.specs.Blocks.{days_in}
use Rattle.blocks.proofs.days_in.Goals as goal

pub returns-then-all-before : goal.returns-then-all-before
unfolding days_in
returns-then-all-before c = omega arith

pub returns-then-left : goal.returns-then-left
unfolding days_in
returns-then-left c = omega arith

pub returns : goal.returns
unfolding days_in
returns c = omega arith
