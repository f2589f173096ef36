-- `sign_by` meets its contract: refused as the longitude is, else the sign in which it is.
use Rattle.days.proofs.Laws.{refused-too}
use Rattle.std.proofs.lemmas.Result.{err_from_is_err_and}
use Rattle.zodiac.proofs.Answers.{sign-given}
use Rattle.zodiac.proofs.sign_by.Goals as goal

pub returns-in_err-found : goal.returns-in_err-found
returns-in_err-found c =
    let p = err_from_is_err_and c.from_residual.result c.from_residual.ensures.1 in
    rw (p.1, p.2) (refused-too _ _ _ c.in_err-found.ensures)

pub returns : goal.returns
returns c = sign-given _ _ c.in_ok-found.ensures
