-- `unmet_arcs` meets its contract. The loop's invariant: the first that is not met from this body on is the first of
-- all. Assumes nothing.
use mathlib.Core.Path.{refl, ◌∙◌}
use native.Mathlib.Omega.{arith}
use Rattle.longitudes.specs.Longitudes.{longitude_at}
use Rattle.query.specs.Conditions.{body_met}
use Rattle.reasons.specs.Reasons.{cause_of}
use Rattle.reasons.specs.Parts.{TestedFor}
use Rattle.reasons.proofs.Rows.{one-met, one-unmet, row_ends, in_order}
use Rattle.reasons.proofs.unmet_arcs.Goals as goal
use Rattle.reasons.proofs.unmet_arcs.Goals.{After-test_arcs}

-- the arcs tested are those of the body with the loop's number
tested :
    (c : After-test_arcs) →
    TestedFor (body_met c.args.query.arcs c.args.day c.loop-body.body) (longitude_at c.loop-body.body c.args.day) c.test_arcs.result
tested c = rw (in_order c.loop-body.body _ (omega arith)) at c.test_arcs.ensures

pub loop-body-init : goal.loop-body-init
loop-body-init c = refl

pub returns-in-Some : goal.returns-in-Some
unfolding cause_of
returns-in-Some c = one-unmet _ _ _ c.loop-body.body (omega arith) (rw c.in-Some.is at (tested (goal.at.returns-in-Some c).After-test_arcs)) ∙ c.loop-body.invariant

pub loop-body-preserved : goal.loop-body-preserved
loop-body-preserved c = one-met _ _ _ c.loop-body.body (omega arith) (rw c.in_default.is at (tested (goal.at.loop-body-preserved c).After-test_arcs)) ∙ c.loop-body.invariant

pub returns : goal.returns
returns c = c.unmet_true_arcs.ensures ∙ row_ends _ _ _ c.loop-body.body (omega arith) ∙ c.loop-body.invariant
