-- `forwards` meets its contract: a law for each sign.
use native.Mathlib.Omega.{arith}
use Rattle.planets.proofs.Signs.{forwards, backwards}
use Rattle.planets.proofs.forwards.Goals as goal

pub returns-then-anomaly-le-HALF : goal.returns-then-anomaly-le-HALF
returns-then-anomaly-le-HALF c = forwards _ _ c.if-anomaly-le-HALF.true (omega arith)

pub returns-else-anomaly-le-HALF : goal.returns-else-anomaly-le-HALF
returns-else-anomaly-le-HALF c = backwards _ _ c.if-anomaly-le-HALF.false (omega arith)
