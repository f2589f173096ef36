-- What each turn of the loop keeps.
use mathlib.Core.Path.{◌≡◌}
use Rattle.explanation.proofs.Naming.{with_names}
use Rattle.explanation.proofs.put_names.Given as goal

abbrev pub invariant-loop-weekday : goal.invariant-loop-weekday
invariant-loop-weekday l = with_names l.made l.set l.weekday ≡ with_names l.initial.made l.set 0
