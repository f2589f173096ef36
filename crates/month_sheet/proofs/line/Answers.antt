-- `line` meets its contract: the month and the line's index decide which line is meant. Assumes nothing.
use borrow.Author.Rules.{rules}
use Prim.Native.Nat.{◌≤◌}
use native.Mathlib.Omega.{arith}
use Rattle.text.proofs.Holding.{nothing-held}
use Rattle.text.proofs.Sheets.{line_first, line-behind}
use Rattle.month_sheet.proofs.Lines.{unmapped, line-of-record, none-behind}
use Rattle.month_sheet.proofs.line.Goals as goal
use Rattle.month_sheet.proofs.line.Goals.{in_default-via-in-Ok-2+else-index-lt-LINES, in_default-via-in-Err+else-index-eq0-2}

pub returns-in-Ok : goal.returns-in-Ok
returns-in-Ok c = rw (c.in-Ok.is, c.if-index-eq0.true, line_first _ _) c.heading.ensures

pub returns-in-Ok-2 : goal.returns-in-Ok-2
returns-in-Ok-2 c = rw (c.in-Ok-2.is, line-of-record c.in-Ok-2.records c.args.index (search (unmapped, rules)) c.if-index-eq0.false c.if-index-lt-LINES.true) c.record_line.ensures

pub returns-in-Err : goal.returns-in-Err
returns-in-Err c = rw (c.in-Err.is, c.if-index-eq0-2.true, line_first _ _) (rw c.number.ensures at c.refusal_line.ensures)

pub returns-in_default : goal.returns-in_default
returns-in_default c =
    elim c.in_default.branch [
      | in_default-via-in-Ok-2+else-index-lt-LINES w ↦ rw (w.in-Ok-2.is, none-behind w.in-Ok-2.records c.args.index (search (unmapped, rules)) w.if-index-lt-LINES.false) (nothing-held _ c.empty.ensures)
      | in_default-via-in-Err+else-index-eq0-2 w ↦ let some : 1 ≤ c.args.index = omega (arith, w.if-index-eq0-2.false) in rw (w.in-Err.is, line-behind _ c.args.index some) (nothing-held _ c.empty.ensures)
    ]
