-- `heading` meets its contract: the text is put on an empty line, and fits. Assumes nothing.
use native.Mathlib.Omega.{arith}
use Rattle.text.proofs.Holding.{holds}
use Rattle.month_sheet.specs.MonthSheets.{month_heading}
use Rattle.month_sheet.proofs.heading.Goals as goal

pub returns : goal.returns
unfolding month_heading
returns c = holds _ _ (omega arith) (rw (c.text.ensures, c.empty.ensures))
