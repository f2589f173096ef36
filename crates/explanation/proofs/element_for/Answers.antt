-- `element_for` meets its contract: a refused question is about no element. Assumes nothing.
use mathlib.Core.Path.{sym, ap, ◌∙◌}
use Rattle.reasons.specs.Reasons.{numbers_of}
use Rattle.explanation.proofs.Elements.{refused-other}
use Rattle.explanation.specs.Elements.{element_for}
use Rattle.explanation.proofs.element_for.Goals as goal

pub returns-in-Err : goal.returns-in-Err
unfolding numbers_of
returns-in-Err c = refused-other 0 _ (ap numbers_of (sym c.in-Err.is) ∙ c.why.ensures)

pub returns-in-Ok : goal.returns-in-Ok
unfolding numbers_of element_for
returns-in-Ok c = c.element_of.ensures ∙ ap element_for (ap numbers_of (sym c.in-Ok.is) ∙ c.why.ensures)
