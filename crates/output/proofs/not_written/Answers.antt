-- `not_written` meets its contract: its text fits a line. Assumes nothing.
use native.Mathlib.Omega.{arith}
use Rattle.text.proofs.Holding.{holds}
use Rattle.output.specs.Output.{not_written}
use Rattle.output.proofs.not_written.Goals as goal

pub returns : goal.returns
unfolding not_written
returns c = holds _ _ (omega arith) (rw (c.text.ensures, c.empty.ensures))
