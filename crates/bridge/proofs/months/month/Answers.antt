-- `month` meets its contract: the library's answer for the row, by its numbers. Assumes nothing.
use mathlib.Core.Path.{refl}
use Rattle.lunar_months.proofs.Answers.{number-most}
use Rattle.bridge.proofs.months.month.Goals as goal

pub returns : goal.returns
returns c = rw (c.month_numbers.ensures, c.month_at.ensures, c.row.ensures) (refl, number-most _ _ _ _)
