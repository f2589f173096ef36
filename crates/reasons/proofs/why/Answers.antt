-- `why` meets its contract: refused where the question is, else the first condition that is not met, in the query's
-- edition. Assumes nothing.
use borrow.Author.Tests.{eq-eqb, ne_eqb}
use mathlib.Core.Path.{◌≡◌, sym, ◌∙◌}
use Rattle.std.proofs.lemmas.Result.{err_from_is_err_and}
use Rattle.days.specs.Refusals.{refusal_number, result_number}
use Rattle.query.proofs.Accepted.{refusal-positive}
use Rattle.reasons.specs.Reasons.{refusal_on, why_of, numbers_of}
use Rattle.reasons.proofs.Accepted.{accepted-question}
use Rattle.reasons.proofs.why.Goals as goal
use Rattle.reasons.proofs.why.Goals.{In_ok-check}

accepted : (c : In_ok-check) → refusal_on c.args.query c.args.day ≡ 0
unfolding result_number
accepted c = sym c.in_ok-check.ensures

pub returns-in_err-check : goal.returns-in_err-check
unfolding why_of numbers_of result_number
returns-in_err-check c =
    let p = err_from_is_err_and c.from_residual.result c.from_residual.ensures.1 in
    let e : refusal_number c.in_err-check.field-0.0 ≡ refusal_on c.args.query c.args.day = c.in_err-check.ensures in
    rw (p.1, p.2, e, ne_eqb _ _ (λ k. refusal-positive _ (e ∙ k)))

pub first_unmet-reason-requires : goal.first_unmet-reason-requires
first_unmet-reason-requires c = let a = accepted-question _ _ (accepted (goal.at.first_unmet-reason-requires c).In_ok-check) in (a.day, a.edition)

pub returns : goal.returns
unfolding why_of numbers_of
returns c = rw (c.first_unmet-reason.ensures, eq-eqb _ _ (accepted (goal.at.returns c).In_ok-check))
