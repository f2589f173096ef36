-- What each turn of the loop keeps: the bodies below `i` are filled in.
use Rattle.longitudes.specs.Longitudes.{longitudes_at, nine_thirds_at}
use Rattle.longitudes.proofs.Filling.{Filled}
use Rattle.longitudes.proofs.nine.Given as goal

abbrev pub invariant-loop-i : goal.invariant-loop-i
invariant-loop-i l = Filled 0 9 l.longitudes (longitudes_at l.day) l.i × Filled 0 9 l.thirds (nine_thirds_at l.day) l.i
