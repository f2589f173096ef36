-- `nothing_asked` meets its contract: the text fits. Assumes nothing.
use native.Mathlib.Omega.{arith}
use Rattle.remarks.specs.Remarks.{nothing_asked}
use Rattle.text.proofs.Holding.{holds}
use Rattle.remarks.proofs.nothing_asked.Goals as goal

pub returns : goal.returns
unfolding nothing_asked
returns c = holds _ _ (omega arith) (rw (c.text.ensures, c.empty.ensures))
