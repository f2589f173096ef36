-- What each turn of the loop keeps, and what falls.
use lib.ListN.{length}
use Rattle.words.proofs.Places.{Placing}
use Rattle.words.proofs.place_in.Given as goal

abbrev pub invariant-loop-rest : goal.invariant-loop-rest
invariant-loop-rest l = Placing l.names l.word l.place l.rest

abbrev pub decreases-loop-rest : goal.decreases-loop-rest
decreases-loop-rest l = length l.rest
