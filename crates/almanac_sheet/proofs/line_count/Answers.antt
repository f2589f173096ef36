-- `line_count` meets its contract: the refusal decides how many there are. Assumes nothing.
use Rattle.almanac_sheet.proofs.Lines.{one-refused, counted}
use Rattle.almanac_sheet.proofs.line_count.Goals as goal

pub returns-in-Ok : goal.returns-in-Ok
returns-in-Ok c = rw c.in-Ok.is (counted _)

pub returns-in-Err : goal.returns-in-Err
returns-in-Err c = rw c.in-Err.is (one-refused _)
