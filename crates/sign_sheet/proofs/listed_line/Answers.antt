-- `listed_line` meets its contract: the entry that is read decides. Assumes nothing.
use Rattle.text.proofs.Holding.{nothing-held}
use Rattle.sign_sheet.proofs.Lines.{none-due, no-day-due, day-due, meant}
use Rattle.sign_sheet.proofs.listed_line.Goals as goal

pub returns-in_default : goal.returns-in_default
returns-in_default c = meant (none-due _ _ c.in_default.ensures) (nothing-held _ c.empty.ensures)

pub returns-then-due-gt-LAST : goal.returns-then-due-gt-LAST
returns-then-due-gt-LAST c = meant (no-day-due _ _ c.in-Ok.ensures c.if-due-gt-LAST.true) (nothing-held _ c.empty-then-due-gt-LAST.ensures)

pub returns : goal.returns
returns c = meant (day-due _ _ c.in-Ok.ensures c.if-due-gt-LAST.false) c.entry_line.ensures
