-- `mean_on` meets its contract: a day in range has its longitude.
use mathlib.Core.Path.{sym, ◌∙◌}
use Rattle.longitudes.proofs.Answers.{longitude-given, given-seconds}
use Rattle.records.proofs.mean_on.Goals as goal

pub unwrap-requires : goal.unwrap-requires
unwrap-requires c = rw (c.mean_longitude.ensures ∙ longitude-given _ _ c.requires)

pub returns : goal.returns
returns c = given-seconds _ _ (sym c.unwrap.ensures ∙ c.mean_longitude.ensures)
