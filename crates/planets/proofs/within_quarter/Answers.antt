-- `within_quarter` meets its contract: an anomaly folded at the half and then at the quarter is its bhuja.
use mathlib.Core.Path.{◌∙◌}
use native.Mathlib.Omega.{arith}
use Rattle.planets.proofs.Folds.{near, far}
use Rattle.planets.proofs.within_quarter.Goals as goal

pub returns-then-arc-le-QUARTER : goal.returns-then-arc-le-QUARTER
returns-then-arc-le-QUARTER c =
    let e = c.within_half-arc.ensures.0 in
    (e ∙ near _ c.requires (omega (arith, e)), omega arith)

pub returns-else-arc-le-QUARTER : goal.returns-else-arc-le-QUARTER
returns-else-arc-le-QUARTER c =
    let e = c.within_half-arc.ensures.0 in
    (omega (arith, e, far _ c.requires (omega (arith, e))), omega arith)
