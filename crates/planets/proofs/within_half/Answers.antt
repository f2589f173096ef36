-- `within_half` meets its contract: the test is the meaning's.
use borrow.Author.Tests.{le-leb, lt-leb}
use native.Mathlib.Omega.{arith}
use Rattle.planets.specs.Steps.{within_half}
use Rattle.planets.proofs.within_half.Goals as goal

pub returns-then-anomaly-gt-HALF : goal.returns-then-anomaly-gt-HALF
unfolding within_half
returns-then-anomaly-gt-HALF c = (rw (lt-leb _ _ c.if-anomaly-gt-HALF.true), omega arith)

pub returns-else-anomaly-gt-HALF : goal.returns-else-anomaly-gt-HALF
unfolding within_half
returns-else-anomaly-gt-HALF c = (rw (le-leb _ _ c.if-anomaly-gt-HALF.false), omega arith)
