-- `mean_on` meets its contract: a day in range has its longitude, which is below a circle, so that the remainder is
-- itself.
use mathlib.Core.Path.{sym, ◌∙◌}
use native.Mathlib.Omega.{arith}
use Rattle.longitudes.specs.Answers.{body_number}
use Rattle.longitudes.proofs.Answers.{longitude-given, given-seconds}
use Rattle.longitudes.proofs.Table.{longitude-small}
use Rattle.panchanga.proofs.mean_on.Goals as goal

pub unwrap-mean-requires : goal.unwrap-mean-requires
unwrap-mean-requires c = rw (c.mean_longitude.ensures ∙ longitude-given _ _ c.requires)

pub returns : goal.returns
returns c =
    let e = given-seconds _ _ (sym c.unwrap-mean.ensures ∙ c.mean_longitude.ensures) in
    omega (arith, c.of.ensures, e, longitude-small (body_number c.args.body) c.args.day)
