-- `angle_on` meets its contract: the seconds as a signed number are themselves. Assumes nothing.
use mathlib.Core.Path.{ap, ◌∙◌}
use lib.IntN.{pos}
use Rattle.arms.specs.Degrees.{degrees_of}
use Rattle.arms.proofs.ShortWay.{signed}
use Rattle.arms.proofs.angle_on.Goals as goal

pub returns : goal.returns
returns c =
    let s = c.seconds_by-at.ensures in
    let body = c.steps_for-steps.ensures in
    c.degrees.ensures ∙ ap degrees_of (signed _ s.1 ∙ ap pos (s.0 ∙ body.seconds _ c.requires))
