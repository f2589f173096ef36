-- `up_to` meets its contract: the run is within the slice. Assumes nothing.
use mathlib.Core.Path.{sym}
use lib.Seq.{length-take-le}
use Rattle.words.specs.Words.{up_to}
use Rattle.words.proofs.Runs.{run-le}
use Rattle.words.proofs.up_to.Goals as goal

pub slice_bounds-result-end : goal.slice_bounds-result-end
slice_bounds-result-end c = rw c.run_length-length.ensures (sym (length-take-le _ _ (run-le _ _ _)))

pub returns : goal.returns
unfolding up_to
returns c = rw c.run_length-length.ensures
