-- What each turn of the loop keeps.
use Rattle.search.proofs.Others.{Counting}
use Rattle.search.proofs.given_places.Given as goal

abbrev pub invariant-loop-place : goal.invariant-loop-place
invariant-loop-place l = Counting l.fn.arcs l.places l.place
