-- What each turn of the loop keeps.
use Rattle.explanation.proofs.Elements.{Naming}
use Rattle.explanation.proofs.put_set_names.Given as goal

abbrev pub invariant-loop-element : goal.invariant-loop-element
invariant-loop-element l = Naming l.kind l.set l.initial.buffer l.from l.buffer l.at l.element
