-- `said` meets its contract: with a comma-separated table the first line, and else nothing. Assumes nothing.
use native.Mathlib.Omega.{arith}
use Rattle.text.proofs.Holding.{holds, nothing-held}
use Rattle.catalogue.specs.Catalogue.{counts_said}
use Rattle.catalogue.proofs.DayLines.{counts-short}
use Rattle.catalogue.proofs.said.Goals as goal

pub returns-in-Numbers : goal.returns-in-Numbers
unfolding counts_said
returns-in-Numbers c = rw c.in-Numbers.is (nothing-held _ c.empty.ensures)

pub returns-in-Names : goal.returns-in-Names
unfolding counts_said
returns-in-Names c = rw c.in-Names.is (nothing-held _ c.empty-in-Names.ensures)

pub returns-in-Csv : goal.returns-in-Csv
unfolding counts_said
returns-in-Csv c =
    rw c.in-Csv.is
    (holds _ _ (omega (arith, counts-short c.args.edition c.args.length c.args.examined (omega arith) (omega arith))) c.counts_line.ensures)
