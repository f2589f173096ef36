-- `heading` meets its contract: the text is put on an empty line, and fits. Assumes nothing.
use Rattle.text.proofs.Holding.{holds}
use Rattle.plate.specs.Plates.{plate_heading}
use Rattle.plate.proofs.Fitting.{heading-fits}
use Rattle.plate.proofs.heading.Goals as goal

pub returns : goal.returns
unfolding plate_heading
returns c = holds _ _ heading-fits (rw (c.text.ensures, c.empty.ensures))
