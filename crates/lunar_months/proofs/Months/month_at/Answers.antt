-- `month_at` meets its contract: refused, too short a list, or the entry found.
use mathlib.Core.Path.{sym, ap, ◌∙◌}
use Rattle.std.specs.Prelude.{Ok}
use Rattle.std.proofs.lemmas.Result.{err_from_is_err_and}
use Rattle.lunar_months.proofs.Answers.{question-refused, question-short, question-answered}
use Rattle.lunar_months.proofs.Months.month_at.Goals as goal

pub returns-in_err-check_question : goal.returns-in_err-check_question
returns-in_err-check_question c =
    let p = err_from_is_err_and c.from_residual.result c.from_residual.ensures.1 in
    rw (p.1, p.2) (sym (question-refused _ _ _ _ c.in_err-check_question.ensures))

pub returns-then-list-self : goal.returns-then-list-self
returns-then-list-self c = sym (question-short _ _ _ _ c.in_ok-check_question.ensures c.if-list-self.true)

pub returns : goal.returns
returns c = ap Ok c.last_entry.ensures ∙ sym (question-answered _ _ _ _ c.in_ok-check_question.ensures c.if-list-self.false)
