-- `put_number` meets its contract: a number that the set has not puts nothing. Assumes nothing.
use mathlib.Core.Path.{sym, ◌∙◌}
use Rattle.explanation.specs.Explanations.{number_in}
use Rattle.explanation.proofs.Making.{word_made, word-left-out}
use Rattle.explanation.proofs.put_number.Goals as goal

pub returns-then-has : goal.returns-then-has
unfolding number_in
returns-then-has c =
    rw (c.number.ensures, c.byte.ensures)
    (word_made _ _ (sym c.has.ensures ∙ c.if-has.true))

pub returns-else-has : goal.returns-else-has
unfolding number_in
returns-else-has c = c.text.ensures ∙ word-left-out _ _ (sym c.has.ensures ∙ c.if-has.false)
