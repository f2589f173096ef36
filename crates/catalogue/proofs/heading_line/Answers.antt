-- `heading_line` meets its contract: in each form it is the first line and what is above the columns, and it fits.
-- Assumes nothing.
use native.Mathlib.Omega.{arith}
use Rattle.names.specs.declared.Print.TheVariants.{Numbers, Names}
use Rattle.names.specs.Columns.{padded, aligned}
use Rattle.text.proofs.Holding.{holds}
use Rattle.text.proofs.Lines.{with-bytes-append}
use Rattle.catalogue.specs.Catalogue.{column_heading, csv_heading, catalogue_heading}
use Rattle.catalogue.proofs.DayLines.{heading-fits}
use Rattle.catalogue.proofs.heading_line.Goals as goal

pub returns-in-Numbers : goal.returns-in-Numbers
unfolding catalogue_heading column_heading csv_heading padded aligned
returns-in-Numbers c =
    rw c.in-Numbers.is
    (holds _ _ (heading-fits Numbers _ _ _ (omega arith) (omega arith)) (rw (c.text.ensures, c.counts_line.ensures) (with-bytes-append _ _ _)))

pub returns-in-Names : goal.returns-in-Names
unfolding catalogue_heading column_heading csv_heading padded aligned
returns-in-Names c =
    rw c.in-Names.is
    (holds _ _ (heading-fits Names _ _ _ (omega arith) (omega arith)) (rw (c.text-in-Names.ensures, c.counts_line-in-Names.ensures) (with-bytes-append _ _ _)))

pub returns-in-Csv : goal.returns-in-Csv
unfolding catalogue_heading column_heading csv_heading padded aligned
returns-in-Csv c =
    rw c.in-Csv.is
    (holds _ _ (omega arith) (rw (c.text-in-Csv.ensures, c.empty.ensures)))
