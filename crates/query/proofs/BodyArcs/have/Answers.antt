-- `BodyArcs::have` meets its contract: the first that is given and has the longitude, else the second.
use mathlib.Core.Path.{sym, ◌∙◌}
use Rattle.query.proofs.Conditions.{first-has, second-has}
use Rattle.query.proofs.BodyArcs.have.Goals as goal

pub returns-then-has : goal.returns-then-has
returns-then-has c = c.if-has.true ∙ first-has _ _ (sym c.has.ensures ∙ c.if-has.true)

pub returns-else-has : goal.returns-else-has
returns-else-has c = c.has-else-has.ensures ∙ second-has _ _ (sym c.has.ensures ∙ c.if-has.false)
