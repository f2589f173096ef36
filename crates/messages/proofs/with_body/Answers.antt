-- `with_body` meets its contract: the name is the table's. Assumes nothing.
use mathlib.Core.Path.{◌∙◌}
use Rattle.words.specs.Names.{body_names}
use Rattle.words.specs.Words.{pieces, is_separator, in_front}
use Rattle.messages.proofs.Fitting.{of-the-name}
use Rattle.messages.proofs.with_body.Goals as goal

pub returns : goal.returns
unfolding pieces is_separator in_front
returns c = c.with_arcs.ensures ∙ of-the-name _ body_names _ _ c.name_at.ensures
