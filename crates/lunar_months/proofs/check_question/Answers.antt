-- `check_question` meets its contract: the edition, whether it is the row's, the covered number and the day, in turn.
use borrow.Author.Tests.{eq-eqb, ne_eqb, lt-ltb, le-ltb}
use mathlib.Core.Path.{sym, ◌∙◌}
use Rattle.lunar_months.specs.Parts.{check_question}
use Rattle.lunar_months.proofs.check_question.Goals as goal

pub returns-then-not-is_edition : goal.returns-then-not-is_edition
unfolding check_question
returns-then-not-is_edition c = rw (sym c.is_edition.ensures ∙ c.if-not-is_edition.true)

pub returns-then-edition-row : goal.returns-then-edition-row
unfolding check_question
returns-then-edition-row c = rw (sym c.is_edition.ensures ∙ c.if-not-is_edition.false, ne_eqb _ _ c.if-edition-row.true)

pub returns-then-not-is_covered : goal.returns-then-not-is_covered
unfolding check_question
returns-then-not-is_covered c = rw (sym c.is_edition.ensures ∙ c.if-not-is_edition.false, eq-eqb _ _ c.if-edition-row.false, sym c.is_covered.ensures ∙ c.if-not-is_covered.true)

pub returns-then-day-row : goal.returns-then-day-row
unfolding check_question
returns-then-day-row c = rw (sym c.is_edition.ensures ∙ c.if-not-is_edition.false, eq-eqb _ _ c.if-edition-row.false, sym c.is_covered.ensures ∙ c.if-not-is_covered.false, lt-ltb _ _ c.if-day-row.true)

pub returns-else-day-row : goal.returns-else-day-row
unfolding check_question
returns-else-day-row c = rw (sym c.is_edition.ensures ∙ c.if-not-is_edition.false, eq-eqb _ _ c.if-edition-row.false, sym c.is_covered.ensures ∙ c.if-not-is_covered.false, le-ltb _ _ c.if-day-row.false)
