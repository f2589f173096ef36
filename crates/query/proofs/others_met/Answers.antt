-- `others_met` meets its contract: a pair out of range decides, then an arc that is not met, then the elements, else
-- the true longitudes.
use mathlib.Core.Bool.{not, true, and-false}
use mathlib.Core.Path.{ap, ◌≡◌, sym, ◌∙◌}
use Rattle.days.specs.Days.{in_range}
use Rattle.panchanga.specs.TrueLongitudes.{is_edition}
use Rattle.query.specs.Conditions.{query_elements_met}
use Rattle.query.specs.Parts.{other_arcs_met, others_met}
use Rattle.query.proofs.Conditions.{elements-not-met, elements-are-met}
use Rattle.query.proofs.others_met.Goals as goal
use Rattle.query.proofs.others_met.Goals.{Else-not-elements, Else-not-in_range, Else-not-other_arcs_met}

day : (c : Else-not-in_range) → in_range c.args.pair ≡ true
day c = sym c.in_range.ensures ∙ c.if-not-in_range.false

arcs : (c : Else-not-other_arcs_met) → other_arcs_met c.args.query.arcs c.args.pair ≡ true
arcs c = sym c.other_arcs_met.ensures ∙ c.if-not-other_arcs_met.false

hold : (c : Else-not-elements) → (is_edition c.args.query.edition ≡ true) × (query_elements_met c.args.query c.args.pair ≡ true)
hold c = elements-are-met c.args.query c.args.pair _ c.elements_met-elements.ensures (ap not c.if-not-elements.false)

pub returns-then-not-in_range : goal.returns-then-not-in_range
unfolding others_met
returns-then-not-in_range c = rw (sym c.in_range.ensures ∙ c.if-not-in_range.true) (sym (and-false (is_edition _)))

pub other_arcs_met-requires : goal.other_arcs_met-requires
other_arcs_met-requires c = day (goal.at.other_arcs_met-requires c).Else-not-in_range

pub returns-then-not-other_arcs_met : goal.returns-then-not-other_arcs_met
unfolding others_met
returns-then-not-other_arcs_met c = rw (day (goal.at.returns-then-not-other_arcs_met c).Else-not-in_range, sym c.other_arcs_met.ensures ∙ c.if-not-other_arcs_met.true) (sym (and-false (is_edition _)))

pub returns-then-not-elements : goal.returns-then-not-elements
returns-then-not-elements c = elements-not-met _ _ _ c.elements_met-elements.ensures (day (goal.at.returns-then-not-elements c).Else-not-in_range) (arcs (goal.at.returns-then-not-elements c).Else-not-other_arcs_met) (ap not c.if-not-elements.true)

pub true_arcs_met-requires : goal.true_arcs_met-requires
true_arcs_met-requires c = (day (goal.at.true_arcs_met-requires c).Else-not-in_range, (hold (goal.at.true_arcs_met-requires c).Else-not-elements).0)

pub returns : goal.returns
unfolding others_met
returns c = c.true_arcs_met.ensures ∙ rw ((hold (goal.at.returns c).Else-not-elements).0, day (goal.at.returns c).Else-not-in_range, arcs (goal.at.returns c).Else-not-other_arcs_met, (hold (goal.at.returns c).Else-not-elements).1)
