-- `put_line` meets its contract: an arm for each form. Assumes nothing.
use Rattle.explanation.proofs.Elements.{csv-alike}
use Rattle.explanation.proofs.put_line.Goals as goal

pub returns-in-Numbers : goal.returns-in-Numbers
returns-in-Numbers c = rw c.in-Numbers.is (rw c.line.ensures.whole at c.put_front.ensures)

pub returns-in-Names : goal.returns-in-Names
returns-in-Names c = rw c.in-Names.is c.put_named.ensures

pub returns-in-Csv : goal.returns-in-Csv
returns-in-Csv c = rw (c.in-Csv.is, csv-alike _ _) (rw c.line-in-Csv.ensures.whole at c.put_front-in-Csv.ensures)
