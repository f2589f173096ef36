-- `day_of` meets its contract: the four bytes by their weights, lowest first.
use native.Mathlib.Omega.{arith}
use Rattle.entries.specs.Entries.{entry_day}
use Rattle.entries.proofs.day_of.Goals as goal

pub returns : goal.returns
unfolding entry_day
returns c = omega arith
