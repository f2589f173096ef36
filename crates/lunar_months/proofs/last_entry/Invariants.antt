-- What each turn of the loop keeps, and what falls.
use Rattle.lunar_months.proofs.Latest.{Looking}
use Rattle.lunar_months.proofs.last_entry.Given as goal

abbrev pub invariant-loop-number : goal.invariant-loop-number
invariant-loop-number l = Looking l.list l.starts l.day l.number

abbrev pub decreases-loop-number : goal.decreases-loop-number
decreases-loop-number l = l.number
