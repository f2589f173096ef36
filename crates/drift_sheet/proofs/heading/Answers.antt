-- `heading` meets its contract: the text is put on an empty line, and fits. Assumes nothing.
use Rattle.text.proofs.Holding.{holds}
use Rattle.drift_sheet.specs.DriftSheets.{drift_heading}
use Rattle.drift_sheet.proofs.Fitting.{heading-fits}
use Rattle.drift_sheet.proofs.heading.Goals as goal

pub returns : goal.returns
unfolding drift_heading
returns c = holds _ _ heading-fits (rw (c.text.ensures, c.empty.ensures))
