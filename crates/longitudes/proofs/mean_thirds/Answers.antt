-- `mean_thirds` meets its contract: the thirds are those of the body's answer, refused where it is.
use mathlib.Core.Path.{ap, ◌∙◌}
use Rattle.std.specs.Prelude.{Ok}
use Rattle.std.proofs.lemmas.Result.{err_from_is_err_and}
use Rattle.longitudes.proofs.Answers.{answer-fits, thirds-given, thirds-refused}
use Rattle.longitudes.proofs.mean_thirds.Goals as goal

pub returns-in_err-found : goal.returns-in_err-found
returns-in_err-found c = let p = err_from_is_err_and c.from_residual.result c.from_residual.ensures.1 in rw (p.1, p.2) (thirds-refused _ _ c.in_err-found.ensures)

pub thirds_of-requires : goal.thirds_of-requires
thirds_of-requires c = answer-fits _ _ c.in_ok-found.ensures

pub returns : goal.returns
returns c = ap Ok c.thirds_of.ensures ∙ thirds-given _ _ c.in_ok-found.ensures
