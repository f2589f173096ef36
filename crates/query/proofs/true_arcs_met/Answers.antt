-- `true_arcs_met` meets its contract. The loop's invariant: the true longitude of each body passed will do.
use mathlib.Core.Path.{◌≡◌, sym, ◌∙◌}
use native.Mathlib.Omega.{arith}
use borrow.Author.Count.{below_none, below_more}
use Rattle.query.specs.Conditions.{place_met}
use Rattle.query.proofs.Conditions.{places-met, place-not-met}
use Rattle.query.proofs.TrueBodies.{in_order}
use Rattle.query.proofs.true_arcs_met.Goals as goal
use Rattle.query.proofs.true_arcs_met.Goals.{After-true_arcs_have}

-- the arcs tested are those of the body with the loop's number
tested : (c : After-true_arcs_have) → c.true_arcs_have.result ≡ place_met c.args.edition c.args.arcs c.args.day c.loop-place.place
tested c =
    let known = c.requires in
    (rw (in_order c.loop-place.place _ (omega arith)) at c.true_arcs_have.ensures) ∙ rw (known.0, known.1)

pub loop-place-init : goal.loop-place-init
loop-place-init c = below_none _

pub returns-then-not-true_arcs_have : goal.returns-then-not-true_arcs_have
returns-then-not-true_arcs_have c = sym (place-not-met _ _ _ c.loop-place.place (omega arith) (sym (tested (goal.at.returns-then-not-true_arcs_have c).After-true_arcs_have) ∙ c.if-not-true_arcs_have.true))

pub loop-place-preserved : goal.loop-place-preserved
loop-place-preserved c = below_more _ _ c.loop-place.invariant (sym (tested (goal.at.loop-place-preserved c).After-true_arcs_have) ∙ c.if-not-true_arcs_have.false)

pub returns : goal.returns
returns c = sym (places-met _ _ _ (λ k h. c.loop-place.invariant k (omega arith)))
