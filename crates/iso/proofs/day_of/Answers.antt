-- `day_of` meets its contract: what the civil date 400 years later is refused with is due here too; the other answers
-- are found.
use Rattle.std.proofs.lemmas.Result.{err_from_is_err_and}
use Rattle.iso.proofs.Laws.{later-refused}
use Rattle.iso.proofs.day_of.Goals as goal

pub returns-in_err-later : goal.returns-in_err-later
returns-in_err-later c =
    let p = err_from_is_err_and c.from_residual.result c.from_residual.ensures.1 in
    rw (p.1, p.2) (later-refused _ c.if-date-lt-FIRST_YEAR.false c.if-date-gt-LAST_JULIAN_YEAR.false c.in_err-later.ensures)
