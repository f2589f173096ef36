-- `both` meets its contract: the edition's form, the day's, the edition and the day's own refusal, in turn.
use borrow.Author.Tests.{eq-eqb, ne_eqb}
use mathlib.Core.Path.{◌≡◌, sym, ◌∙◌}
use Rattle.std.proofs.lemmas.Result.{err_from_is_err_and}
use Rattle.days.specs.Refusals.{result_number}
use Rattle.lunar_month_sheet.specs.MonthSheets.{asked}
use Rattle.lunar_month_sheet.proofs.both.Goals as goal
use Rattle.lunar_month_sheet.proofs.both.Goals.{Else-result_number-number}

-- the day is of the right form
formed : (c : Else-result_number-number) → result_number c.args.day ≡ 3 → ⊥
formed c z = c.if-result_number-number.false (c.result_number.ensures ∙ z ∙ sym c.number.ensures)

pub returns-in_default : goal.returns-in_default
unfolding asked
returns-in_default c = rw c.in_default.is

pub returns-then-result_number-number : goal.returns-then-result_number-number
unfolding asked
returns-then-result_number-number c =
    let three : result_number c.args.day ≡ 3 = sym c.result_number.ensures ∙ c.if-result_number-number.true ∙ c.number.ensures in
    rw (c.in-Ok.is, eq-eqb _ 3 three)

pub returns-then-not-is_edition : goal.returns-then-not-is_edition
unfolding asked
returns-then-not-is_edition c =
    rw (c.in-Ok.is, ne_eqb _ 3 (formed (goal.at.returns-then-not-is_edition c).Else-result_number-number), sym c.is_edition.ensures ∙ c.if-not-is_edition.true)

pub returns-in_err-day : goal.returns-in_err-day
unfolding asked
returns-in_err-day c =
    let p = err_from_is_err_and c.from_residual.result c.from_residual.ensures.1 in
    rw (p.1, p.2, c.in-Ok.is, ne_eqb _ 3 (formed (goal.at.returns-in_err-day c).Else-result_number-number), sym c.is_edition.ensures ∙ c.if-not-is_edition.false, c.in_err-day.was)

pub returns : goal.returns
unfolding asked
returns c =
    rw (c.in-Ok.is, ne_eqb _ 3 (formed (goal.at.returns c).Else-result_number-number), sym c.is_edition.ensures ∙ c.if-not-is_edition.false, c.in_ok-day.was)
