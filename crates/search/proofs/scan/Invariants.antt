-- What each turn of the loop keeps, and what falls.
use Prim.Native.Nat.{◌+◌, ◌-◌}
use Rattle.search.proofs.Passes.{Scanning}
use Rattle.search.proofs.scan.Given as goal

abbrev pub invariant-loop-visit : goal.invariant-loop-visit
invariant-loop-visit l = Scanning l.query l.initial.visit l.count l.initial.output l.output l.visit l.length l.latest l.resume

abbrev pub decreases-loop-visit : goal.decreases-loop-visit
decreases-loop-visit l = l.until + 1 - l.visit.day
