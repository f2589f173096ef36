-- `month_at` meets its contract: the library's answer for the row, by its numbers.
use mathlib.Core.Path.{refl}
use Rattle.lunar_months.proofs.Answers.{number-most}
use Rattle.host.proofs.months.month_at.Goals as goal

pub returns : goal.returns
returns c =
    let told = c.month_numbers.ensures in
    rw (told, c.month_at.ensures, c.row.ensures) (refl, number-most _ _ _ _)
