-- What each turn of the loop keeps, and what falls.
use lib.ListN.{length}
use Rattle.page.proofs.Reading.{Reading}
use Rattle.page.proofs.read.Given as goal

abbrev pub invariant-loop-rest : goal.invariant-loop-rest
invariant-loop-rest l = Reading l.text l.page l.number l.rest

abbrev pub decreases-loop-rest : goal.decreases-loop-rest
decreases-loop-rest l = length l.rest
