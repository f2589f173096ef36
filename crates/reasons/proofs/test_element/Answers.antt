-- `test_element` meets its contract: one that is not asked for holds, and of any other the number found decides.
-- Assumes nothing.
use borrow.Author.Tests.{not-true, not-false}
use mathlib.Core.Path.{◌≡◌, ap, ◌∙◌}
use Rattle.query.specs.Conditions.{has_number, meets}
use Rattle.reasons.specs.Parts.{element_at}
use Rattle.reasons.proofs.Testing.{met, unmet, no_number, number-tested}
use Rattle.reasons.proofs.test_element.Goals as goal
use Rattle.reasons.proofs.test_element.Goals.{After-has}

tested : (c : After-has) → c.has.result ≡ meets c.args.asked (element_at c.args.element c.args.edition c.args.day)
tested c = number-tested _ _ (not-false _ c.if-not-asked.false) (c.has.ensures ∙ ap (has_number c.args.asked.set) c.element_on-found.ensures)

pub returns-then-not-asked : goal.returns-then-not-asked
returns-then-not-asked c = no_number _ _ (not-true _ c.if-not-asked.true)

pub returns-then-has : goal.returns-then-has
returns-then-has c = met (tested (goal.at.returns-then-has c).After-has) c.if-has.true

pub returns-else-has : goal.returns-else-has
returns-else-has c = unmet (tested (goal.at.returns-else-has c).After-has) c.if-has.false c.element_on-found.ensures
