-- What each turn of the loop keeps.
use Rattle.date_lines.proofs.Measuring.{Checked}
use Rattle.date_lines.proofs.all_days.Given as goal

abbrev pub invariant-loop-index : goal.invariant-loop-index
invariant-loop-index l = Checked l.list l.index
