-- `rate_on` meets its contract: the short way of the way forwards between the seconds of the two days. Assumes nothing.
use mathlib.Core.Path.{sym, ap, ap₂, ◌∙◌, subst}
use native.Mathlib.Omega.{arith}
use mir.Syntax.{w32}
use mir.Val.{SFits}
use mir.ValLaws.{to_z-of_z}
use Rattle.longitudes.specs.Longitudes.{difference_of}
use Rattle.arms.specs.Degrees.{degrees_of}
use Rattle.arms.proofs.ShortWay.{signed-way, way-fits}
use Rattle.arms.proofs.rate_on.Goals as goal

pub returns : goal.returns
returns c =
    let body = c.steps_for-steps.ensures in
    let forwards = c.forwards_by-forwards.ensures.0 ∙ ap₂ difference_of (body.seconds _ (omega (arith, c.requires))) (body.seconds _ (omega (arith, c.requires))) in
    let way = c.signed_way.ensures ∙ signed-way _ _ _ forwards in
    c.degrees.ensures ∙ ap degrees_of (to_z-of_z w32 _ (subst (SFits w32) (sym way) (way-fits _ _)) ∙ way)
