-- `put_true_arcs` meets its contract: the name is the table's. Assumes nothing.
use mathlib.Core.Path.{◌∙◌}
use Rattle.words.specs.Names.{true_names}
use Rattle.words.specs.Words.{pieces, is_separator, in_front}
use Rattle.explanation.proofs.Making.{named-arcs}
use Rattle.explanation.proofs.put_true_arcs.Goals as goal

pub returns : goal.returns
unfolding pieces is_separator in_front
returns c = c.put_arcs.ensures ∙ named-arcs _ true_names _ _ _ c.name_at.ensures
