-- `trimmed` meets its contract: the blanks in front are within the slice. Assumes nothing.
use mathlib.Core.Path.{◌∙◌}
use Rattle.text.proofs.Lending.{lent-rest}
use Rattle.words.specs.Words.{trimmed}
use Rattle.words.proofs.Runs.{run-le}
use Rattle.words.proofs.trim.Goals as goal

pub slice_bounds-result-count : goal.slice_bounds-result-count
slice_bounds-result-count c = rw c.run_length-start.ensures (run-le _ _ _)

pub slice_bounds-result-start : goal.slice_bounds-result-start
slice_bounds-result-start c = rw c.run_length-start.ensures (run-le _ _ _)

pub returns : goal.returns
unfolding trimmed
returns c = lent-rest c.args.s.now c.run_length-start.result ∙ rw c.run_length-start.ensures
