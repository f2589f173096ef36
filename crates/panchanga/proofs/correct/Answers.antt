-- `correct` meets its contract: one law for each sign.
use mathlib.Core.Path.{sym, ◌∙◌}
use native.Mathlib.Omega.{arith}
use Rattle.panchanga.proofs.Naturals.{added, subtracted}
use Rattle.panchanga.proofs.correct.Goals as goal

pub returns-then-anomaly-le-HALF : goal.returns-then-anomaly-le-HALF
returns-then-anomaly-le-HALF c = c.within.ensures ∙ sym (added _ _ _ c.if-anomaly-le-HALF.true)

pub returns-else-anomaly-le-HALF : goal.returns-else-anomaly-le-HALF
returns-else-anomaly-le-HALF c = c.within-else-anomaly-le-HALF.ensures ∙ sym (subtracted _ _ _ c.if-anomaly-le-HALF.false (omega arith))
