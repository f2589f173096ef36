-- `longitude` meets its contract: by the Sun that is meant.
use Rattle.std.proofs.lemmas.Result.{err_from_is_err_and}
use Rattle.zodiac.specs.Zodiac.{sun_at}
use Rattle.zodiac.proofs.Answers.{mean-sun, no-mean-sun}
use Rattle.zodiac.proofs.longitude.Goals as goal

pub returns-in_err-mean-in-Mean : goal.returns-in_err-mean-in-Mean
returns-in_err-mean-in-Mean c =
    let p = err_from_is_err_and c.from_residual.result c.from_residual.ensures.1 in
    rw (c.in-Mean.is, p.1, p.2) (no-mean-sun _ c.in_err-mean-in-Mean.ensures)

pub returns-in_ok-mean-in-Mean : goal.returns-in_ok-mean-in-Mean
returns-in_ok-mean-in-Mean c = rw c.in-Mean.is (mean-sun _ c.in_ok-mean-in-Mean.ensures)

pub returns-in-True : goal.returns-in-True
unfolding sun_at
returns-in-True c = rw c.in-True.is c.true_sun.ensures
