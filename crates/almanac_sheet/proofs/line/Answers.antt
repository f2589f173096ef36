-- `line` meets its contract: that of the days that were read, or the refusal's and nothing behind it. Assumes nothing.
use Rattle.text.proofs.Holding.{nothing-held}
use Rattle.almanac_sheet.proofs.Lines.{meant, first-refused, rest-refused, lines-read}
use Rattle.almanac_sheet.proofs.line.Goals as goal

pub returns-in-Ok : goal.returns-in-Ok
returns-in-Ok c = rw (c.in-Ok.is, lines-read c.in-Ok.reading) c.read_line.ensures

pub returns-then-index-eq0 : goal.returns-then-index-eq0
returns-then-index-eq0 c = rw c.in-Err.is (meant (first-refused _ _ c.if-index-eq0.true) (rw c.number.ensures at c.refusal_line.ensures))

pub returns-else-index-eq0 : goal.returns-else-index-eq0
returns-else-index-eq0 c = rw c.in-Err.is (meant (rest-refused _ _ c.if-index-eq0.false) (nothing-held _ c.empty.ensures))
