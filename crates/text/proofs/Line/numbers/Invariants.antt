-- What each turn of the loop keeps.
use Rattle.text.specs.Lines.{spaced}
use Rattle.text.proofs.Putting.{Putting}
use Rattle.text.proofs.Line.numbers.Given as goal

abbrev pub invariant-loop-number : goal.invariant-loop-number
invariant-loop-number l = Putting spaced l.initial.made l.numbers l.made l.number-index
