-- What each turn of the loop keeps, and what falls.
use Rattle.text.proofs.Backwards.{Written}
use Rattle.text.proofs.decimal.Given as goal

abbrev pub invariant-loop-rest : goal.invariant-loop-rest
invariant-loop-rest l = Written l.n l.bytes l.from l.rest

abbrev pub decreases-loop-rest : goal.decreases-loop-rest
decreases-loop-rest l = l.rest
