-- `new` meets its contract: an edition or none.
use mathlib.Core.Path.{sym, ◌∙◌}
use Rattle.lunar_months.specs.Rows.{new_row}
use Rattle.lunar_months.proofs.Months.new.Goals as goal

pub returns-then-is_edition : goal.returns-then-is_edition
unfolding new_row
returns-then-is_edition c = rw (sym c.is_edition.ensures ∙ c.if-is_edition.true)

pub returns-else-is_edition : goal.returns-else-is_edition
unfolding new_row
returns-else-is_edition c = rw (sym c.is_edition.ensures ∙ c.if-is_edition.false)
