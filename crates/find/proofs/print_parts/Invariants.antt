-- What each turn of the loop keeps, and what falls.
use Prim.Native.Nat.{◌+◌, ◌-◌}
use mathlib.Core.Path.{◌≡◌}
use lib.ListN.{length}
use Rattle.find.proofs.Parting.{Parting}
use Rattle.find.proofs.print_parts.Given as goal

abbrev pub invariant-loop-first : goal.invariant-loop-first
invariant-loop-first l =
    (length l.list ≡ length l.initial.list) × (length l.buffer ≡ length l.initial.buffer) × Parting l.print l.query l.first l.written

abbrev pub decreases-loop-first : goal.decreases-loop-first
decreases-loop-first l = l.query.last + 1 - l.first
