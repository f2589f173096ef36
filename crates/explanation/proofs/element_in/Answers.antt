-- `element_in` meets its contract: a name is put, or none, and it fits. Assumes nothing.
use mathlib.Core.Path.{sym, ◌∙◌}
use native.Mathlib.Omega.{arith}
use Rattle.text.proofs.Holding.{holds, nothing-held}
use Rattle.explanation.proofs.Making.{word_made}
use Rattle.explanation.proofs.Elements.{one-short}
use Rattle.explanation.specs.Explanations.{element_in}
use Rattle.explanation.proofs.element_in.Goals as goal

pub returns-then-has : goal.returns-then-has
unfolding element_in
returns-then-has c =
    let a = c.args in
    holds _ _ (omega (arith, one-short a.kind a.set a.number))
    (rw (c.put_name.ensures, c.byte.ensures, c.empty.ensures) (word_made _ _ (sym c.has.ensures ∙ c.if-has.true)))

pub returns-else-has : goal.returns-else-has
unfolding element_in
returns-else-has c = rw (sym c.has.ensures ∙ c.if-has.false) (nothing-held _ c.empty-else-has.ensures)
