-- `unmet_true_arcs` meets its contract. The loop's invariant: the first that is not met from this place on is the first
-- of all. Assumes nothing.
use mathlib.Core.Path.{refl, ◌∙◌}
use native.Mathlib.Omega.{arith}
use Rattle.query.specs.Conditions.{place_met, true_longitude_at}
use Rattle.query.proofs.TrueBodies.{in_order}
use Rattle.reasons.specs.Conditions.{row, first_unmet}
use Rattle.reasons.specs.Reasons.{cause_of}
use Rattle.reasons.specs.Parts.{TestedFor}
use Rattle.reasons.proofs.Rows.{one-met, one-unmet, row_ends}
use Rattle.reasons.proofs.unmet_true_arcs.Goals as goal
use Rattle.reasons.proofs.unmet_true_arcs.Goals.{After-test_true_arcs}

-- the arcs tested are those of the place with the loop's number
tested :
    (c : After-test_true_arcs) →
    TestedFor (place_met c.args.edition c.args.arcs c.args.day c.loop-place.place) (true_longitude_at c.args.edition c.loop-place.place c.args.day) c.test_true_arcs.result
tested c = rw (in_order c.loop-place.place _ (omega arith)) at c.test_true_arcs.ensures

pub loop-place-init : goal.loop-place-init
loop-place-init c = refl

pub returns-in-Some : goal.returns-in-Some
unfolding cause_of row
returns-in-Some c = one-unmet _ _ _ c.loop-place.place (omega arith) (rw c.in-Some.is at (tested (goal.at.returns-in-Some c).After-test_true_arcs)) ∙ c.loop-place.invariant

pub loop-place-preserved : goal.loop-place-preserved
loop-place-preserved c = one-met _ _ _ c.loop-place.place (omega arith) (rw c.in_default.is at (tested (goal.at.loop-place-preserved c).After-test_true_arcs)) ∙ c.loop-place.invariant

pub returns : goal.returns
unfolding cause_of first_unmet row
returns c = row_ends _ _ _ c.loop-place.place (omega arith) ∙ c.loop-place.invariant
