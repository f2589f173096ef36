-- What each turn of the loop keeps.
use Rattle.zodiac.proofs.Filling.{Filling}
use Rattle.zodiac.proofs.put_days.Given as goal

abbrev pub invariant-loop-index : goal.invariant-loop-index
invariant-loop-index l = Filling l.delays l.signs l.count l.initial.list l.list l.index
