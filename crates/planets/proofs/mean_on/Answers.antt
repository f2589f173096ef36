-- `mean_on` meets its contract: a day in range has its longitude.
use mathlib.Core.Path.{sym, ◌∙◌}
use native.Mathlib.Omega.{arith}
use Rattle.longitudes.specs.Answers.{body_number}
use Rattle.longitudes.proofs.Answers.{longitude-given, given-seconds}
use Rattle.longitudes.proofs.Table.{longitude-small}
use Rattle.planets.proofs.mean_on.Goals as goal

pub unwrap-requires : goal.unwrap-requires
unwrap-requires c = rw (c.mean_longitude.ensures ∙ longitude-given _ _ c.requires)

pub returns : goal.returns
returns c =
    let a = c.args in
    let e = given-seconds _ _ (sym c.unwrap.ensures ∙ c.mean_longitude.ensures) in
    (e, omega (arith, e, longitude-small (body_number a.body) a.day))
