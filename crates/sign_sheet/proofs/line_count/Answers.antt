-- `line_count` meets its contract: the listing's refusal decides how many there are. Assumes nothing.
use Rattle.sign_sheet.proofs.Lines.{one-refused, counted}
use Rattle.sign_sheet.proofs.line_count.Goals as goal

pub returns-in-Ok : goal.returns-in-Ok
returns-in-Ok c = λ sun list. rw c.in-Ok.is (counted sun _ list)

pub returns-in-Err : goal.returns-in-Err
returns-in-Err c = λ sun list. rw c.in-Err.is (one-refused sun _ list)
