-- What each turn of the loop keeps, and what falls.
use lib.ListN.{length}
use Rattle.remarks.proofs.Saying.{Saying}
use Rattle.remarks.proofs.put_all.Given as goal

abbrev pub invariant-loop-rest : goal.invariant-loop-rest
invariant-loop-rest l = Saying l.first l.text l.initial.buffer l.number l.at l.asked l.rest l.buffer

abbrev pub decreases-loop-rest : goal.decreases-loop-rest
decreases-loop-rest l = length l.rest
