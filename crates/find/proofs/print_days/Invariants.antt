-- What each turn of the loop keeps, and what falls.
use lib.ListN.{length}
use Rattle.entries.specs.Listed.{listed_from}
use Rattle.catalogue.specs.Pieces.{day_lines}
use Rattle.find.proofs.Printing.{Printing}
use Rattle.find.proofs.print_days.Given as goal

abbrev pub invariant-loop-print : goal.invariant-loop-print
invariant-loop-print l = Printing l.print l.query l.days l.before (length l.initial.buffer) l.buffer l.written l.next

abbrev pub decreases-loop-print : goal.decreases-loop-print
decreases-loop-print l = length (day_lines l.print l.query.edition (listed_from l.days l.next))
