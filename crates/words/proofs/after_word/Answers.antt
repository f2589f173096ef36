-- `after_word` meets its contract, by those of the two functions that it calls. Assumes nothing.
use mathlib.Core.Path.{ap, ◌∙◌}
use Rattle.text.specs.Lines.{space}
use Rattle.words.specs.Words.{after_first}
use Rattle.words.proofs.after_word.Goals as goal

pub returns : goal.returns
returns c = c.after.ensures ∙ ap (after_first space) c.trim.ensures
