-- `line` meets its contract: that of the entries that are listed, or the refusal's and nothing behind it. Assumes
-- nothing.
use Rattle.text.proofs.Holding.{nothing-held}
use Rattle.sign_sheet.proofs.Lines.{first-refused, rest-refused, accepted-lines, meant}
use Rattle.sign_sheet.proofs.line.Goals as goal

pub returns-in-Ok : goal.returns-in-Ok
returns-in-Ok c = rw (c.in-Ok.is, accepted-lines c.args.sun c.in-Ok.length c.args.list.now) c.line_of.ensures

pub returns-then-index-eq0 : goal.returns-then-index-eq0
returns-then-index-eq0 c = rw c.in-Err.is (meant (first-refused _ _ _ _ c.if-index-eq0.true) (rw (c.number.ensures, c.refusal.ensures) at c.refusal_line.ensures))

pub returns-else-index-eq0 : goal.returns-else-index-eq0
returns-else-index-eq0 c = rw c.in-Err.is (meant (rest-refused _ _ _ _ c.if-index-eq0.false) (nothing-held _ c.empty.ensures))
