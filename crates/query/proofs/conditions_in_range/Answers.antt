-- `conditions_in_range` meets its contract: its tests are the meaning's, in its order.
use mathlib.Core.Path.{sym, ◌∙◌}
use native.Mathlib.Omega.{arith}
use Rattle.query.specs.Conditions.{body_arcs_in_range, arcs_in_range, true_arcs_in_range, conditions_in_range}
use Rattle.query.proofs.Conditions.{all-nine, all-seven}
use Rattle.query.proofs.conditions_in_range.Goals as goal

pub returns-then-not-in_range : goal.returns-then-not-in_range
unfolding conditions_in_range
returns-then-not-in_range c = rw (sym c.in_range.ensures ∙ c.if-not-in_range.true)

pub returns-then-not-elements_in_range : goal.returns-then-not-elements_in_range
unfolding conditions_in_range
returns-then-not-elements_in_range c = rw (sym c.in_range.ensures ∙ c.if-not-in_range.false, sym c.elements_in_range.ensures ∙ c.if-not-elements_in_range.true)

pub returns-then-not-all_in_range : goal.returns-then-not-all_in_range
unfolding conditions_in_range arcs_in_range
returns-then-not-all_in_range c = rw (sym c.in_range.ensures ∙ c.if-not-in_range.false, sym c.elements_in_range.ensures ∙ c.if-not-elements_in_range.false, sym (all-nine body_arcs_in_range c.args.query.arcs (omega arith)), sym c.all_in_range.ensures ∙ c.if-not-all_in_range.true)

pub returns : goal.returns
unfolding conditions_in_range arcs_in_range true_arcs_in_range
returns c = rw (sym c.in_range.ensures ∙ c.if-not-in_range.false, sym c.elements_in_range.ensures ∙ c.if-not-elements_in_range.false, sym (all-nine body_arcs_in_range c.args.query.arcs (omega arith)), sym c.all_in_range.ensures ∙ c.if-not-all_in_range.false, sym (all-seven body_arcs_in_range c.args.query.true_arcs (omega arith)), c.all_in_range-2.ensures)
