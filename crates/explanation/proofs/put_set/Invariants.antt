-- What each turn of the loop keeps.
use mathlib.Core.Path.{◌≡◌}
use Rattle.explanation.proofs.Naming.{with_numbers}
use Rattle.explanation.proofs.put_set.Given as goal

abbrev pub invariant-loop-number : goal.invariant-loop-number
invariant-loop-number l = with_numbers l.made l.set l.number ≡ with_numbers l.initial.made l.set 0
