-- What each turn of the loop keeps, and what falls.
use Prim.Native.Nat.{◌-◌}
use Rattle.entries.specs.Entries.{capacity}
use Rattle.catalogue.proofs.Filling.{Filling}
use Rattle.catalogue.proofs.put_lines.Given as goal

abbrev pub invariant-loop-day : goal.invariant-loop-day
invariant-loop-day l = Filling l.print l.edition l.list l.from l.initial.buffer l.buffer l.piece

abbrev pub decreases-loop-day : goal.decreases-loop-day
decreases-loop-day l = capacity l.list - l.piece.next
