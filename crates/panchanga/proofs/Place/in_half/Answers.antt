-- `in_half` meets its contract: Q does not tell the quarters of a half apart.
use native.Mathlib.Omega.{arith}
use Rattle.panchanga.proofs.Naturals.{first-half, second-half}
use Rattle.panchanga.proofs.Place.in_half.Goals as goal

pub returns-then-self-gt-HALF : goal.returns-then-self-gt-HALF
returns-then-self-gt-HALF c = (second-half _ c.if-self-gt-HALF.true (omega arith), omega arith)

pub returns-else-self-gt-HALF : goal.returns-else-self-gt-HALF
returns-else-self-gt-HALF c = (first-half _ c.if-self-gt-HALF.false, omega arith)
