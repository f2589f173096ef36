-- `heading` meets its contract: the text is put on an empty line. Assumes nothing.
use Rattle.text.proofs.Holding.{holds}
use Rattle.sign_sheet.specs.SignSheets.{sign_heading}
use Rattle.sign_sheet.proofs.Lines.{heading-fits}
use Rattle.sign_sheet.proofs.heading.Goals as goal

pub returns : goal.returns
unfolding sign_heading
returns c = holds _ _ heading-fits (rw (c.text.ensures, c.empty.ensures))
