-- `steps_of` meets its contract: the definition, step by step. Assumes nothing.
use Rattle.arms.specs.Parts.{steps_of}
use borrow.Author.Rules.{rules}
use Rattle.arms.proofs.steps_of.Goals as goal

pub returns : goal.returns
unfolding steps_of
returns c = search rules
