-- `put_name` meets its contract: a weekday that the set has not puts nothing. Assumes nothing.
use mathlib.Core.Path.{sym, ◌∙◌}
use Rattle.words.specs.Words.{pieces, is_separator, in_front}
use Rattle.explanation.specs.Explanations.{name_in}
use Rattle.explanation.proofs.Making.{name-made, word-left-out}
use Rattle.explanation.proofs.put_name.Goals as goal

pub returns-then-set_has : goal.returns-then-set_has
unfolding pieces is_separator in_front
returns-then-set_has c =
    rw (c.text.ensures, c.byte.ensures)
    (name-made _ _ _ (sym c.set_has.ensures ∙ c.if-set_has.true) c.name_at-name.ensures)

pub returns-else-set_has : goal.returns-else-set_has
unfolding name_in
returns-else-set_has c = c.text-else-set_has.ensures ∙ word-left-out _ _ (sym c.set_has.ensures ∙ c.if-set_has.false)
