-- `read_line` meets its contract: by the kind. Assumes nothing.
use Rattle.date_lines.specs.Lines.{line_read}
use Rattle.date_lines.proofs.read_line.Goals as goal

pub returns-in-Dates : goal.returns-in-Dates
unfolding line_read
returns-in-Dates c = rw c.in-Dates.is c.read_date.ensures

pub returns-in-Days : goal.returns-in-Days
unfolding line_read
returns-in-Days c = rw c.in-Days.is c.read_number.ensures
