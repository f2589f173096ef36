-- `line` meets its contract: the answer's case is the one that the meaning's numbers are of, and the line fits. Assumes
-- nothing.
use mathlib.Core.Path.{◌≡◌, sym, ap, ◌∙◌}
use Rattle.reasons.specs.Reasons.{Numbers, why_of, numbers_of}
use Rattle.text.proofs.Holding.{holds}
use Rattle.explanation.proofs.Answers.{refused-line, told_line}
use Rattle.explanation.proofs.Fitting.{explanation-fits}
use Rattle.explanation.proofs.line.Goals as goal
use Rattle.explanation.proofs.line.Goals.{After-why}

-- the answer in numbers
answer : (c : After-why) → numbers_of c.why.result ≡ why_of c.args.query c.args.day
answer c = c.why.ensures

pub returns-in-Err : goal.returns-in-Err
unfolding numbers_of
returns-in-Err c =
    let e = ap numbers_of (sym c.in-Err.is) ∙ answer (goal.at.returns-in-Err c).After-why in
    rw (refused-line _ _ _ e) (rw c.number.ensures at c.refusal_line.ensures)

pub returns-in-Ok : goal.returns-in-Ok
unfolding numbers_of
returns-in-Ok c =
    let e = ap numbers_of (sym c.in-Ok.is) ∙ answer (goal.at.returns-in-Ok c).After-why in
    holds _ _ (explanation-fits _ _ (ap (λ (x : Numbers). x.refusal) (sym e)))
    (rw (c.byte.ensures, c.with_edition.ensures, c.put_verdict-told.ensures, c.put_day.ensures, c.empty.ensures)
    (told_line _ _ _ _ e))
