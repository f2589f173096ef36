-- `read_number` meets its contract: 3 is told as 15. Assumes nothing.
use borrow.Author.Rules.{rules}
use Rattle.date_lines.proofs.Lines.{bad-input, other-refusal, a-day}
use Rattle.date_lines.proofs.read_number.Goals as goal

pub returns-in-Err-BadInput : goal.returns-in-Err-BadInput
returns-in-Err-BadInput c = bad-input _ (rw c.in-Err-BadInput.field-0-is at c.in-Err-BadInput.ensures)

pub returns-in-Err : goal.returns-in-Err
returns-in-Err c = other-refusal _ c.in-Err.ensures (λ e. search rules)

pub returns-in-Ok : goal.returns-in-Ok
returns-in-Ok c = a-day _ c.in-Ok.ensures
