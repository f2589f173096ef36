-- What each turn of the loop keeps.
use Rattle.date_lines.proofs.Putting.{Filled}
use Rattle.date_lines.proofs.put_lines.Given as goal

abbrev pub invariant-loop-index : goal.invariant-loop-index
invariant-loop-index l = Filled l.kind l.list l.initial.text l.text l.at l.index
