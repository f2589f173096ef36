-- `first_word` meets its contract, by those of the two functions that it calls. Assumes nothing.
use mathlib.Core.Path.{ap, ◌∙◌}
use Rattle.text.specs.Lines.{space}
use Rattle.words.specs.Words.{up_to}
use Rattle.words.proofs.first_word.Goals as goal

pub returns : goal.returns
returns c = c.up_to.ensures ∙ ap (up_to space) c.trim.ensures
