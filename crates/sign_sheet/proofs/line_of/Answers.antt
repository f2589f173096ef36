-- `line_of` meets its contract: the line's index decides which line is meant. Assumes nothing.
use Rattle.text.proofs.Holding.{nothing-held}
use Rattle.sign_sheet.proofs.Lines.{first-is-heading, none-behind, line-of-entry, meant}
use Rattle.sign_sheet.proofs.line_of.Goals as goal

pub returns-then-index-eq0 : goal.returns-then-index-eq0
returns-then-index-eq0 c = meant (first-is-heading _ _ _ _ c.if-index-eq0.true) c.heading.ensures

pub returns-then-length-index : goal.returns-then-length-index
returns-then-length-index c = meant (none-behind _ _ _ _ c.if-length-index.true) (nothing-held _ c.empty.ensures)

pub returns : goal.returns
returns c = meant (line-of-entry _ _ _ _ c.if-index-eq0.false c.if-length-index.false) c.listed_line.ensures
