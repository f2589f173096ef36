-- What each turn of the loop keeps: the days up to `before` are scanned.
use Rattle.older_motions.specs.Parts.{motion_of}
use Rattle.older_motions.proofs.Scanning.{Scanned}
use Rattle.older_motions.proofs.farthest_over.Given as goal

abbrev pub invariant-loop-before : goal.invariant-loop-before
invariant-loop-before l = Scanned (motion_of l.motion) l.first l.last l.scan l.numerator l.day l.before
