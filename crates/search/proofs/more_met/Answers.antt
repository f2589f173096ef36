-- `more_met` meets its contract: what is said to be asked is all that is left to be met.
use mathlib.Core.Path.{sym, ◌∙◌}
use Rattle.search.proofs.Others.{elements-decide, place-decides, no_more}
use Rattle.search.proofs.more_met.Goals as goal

pub returns-in-Nothing : goal.returns-in-Nothing
returns-in-Nothing c = sym (no_more _ _ c.requires.known.0 c.requires.known.1 (rw c.in-Nothing.is at c.requires.asks))

pub returns-in-Elements : goal.returns-in-Elements
returns-in-Elements c = c.elements_met.ensures ∙ elements-decide _ _ (rw c.in-Elements.is at c.requires.asks)

pub returns-in-TrueArcs : goal.returns-in-TrueArcs
returns-in-TrueArcs c = c.true_arcs_have.ensures ∙ place-decides _ _ _ _ (rw c.in-TrueArcs.is at c.requires.asks)
