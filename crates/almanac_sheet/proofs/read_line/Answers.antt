-- `read_line` meets its contract: the count and the line's index decide which line is meant. Assumes nothing.
use Rattle.text.proofs.Holding.{nothing-held}
use Rattle.almanac_sheet.proofs.Lines.{meant, first-is-heading, none-behind, line-of-day}
use Rattle.almanac_sheet.proofs.read_line.Goals as goal

pub returns-then-index-eq0 : goal.returns-then-index-eq0
returns-then-index-eq0 c = meant (first-is-heading _ _ c.if-index-eq0.true) c.heading.ensures

pub returns-then-reading-index : goal.returns-then-reading-index
returns-then-reading-index c = meant (none-behind _ _ c.if-reading-index.true) (nothing-held _ c.empty.ensures)

pub returns : goal.returns
returns c = meant (line-of-day _ _ c.if-index-eq0.false c.if-reading-index.false) c.day_line.ensures
