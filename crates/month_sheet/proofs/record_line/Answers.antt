-- `record_line` meets its contract: what is put one after another is put at once, and ended. Assumes nothing.
use Rattle.month_sheet.proofs.Lines.{record-line-held}
use Rattle.month_sheet.proofs.record_line.Goals as goal

pub returns : goal.returns
returns c =
    rw c.ended.ensures
    (record-line-held _ _
    (rw (
      c.numbers-3.ensures,
      c.numbers-2.ensures,
      c.numbers.ensures,
      c.number.ensures,
      c.empty.ensures,
    )))
