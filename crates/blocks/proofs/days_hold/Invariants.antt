-- What each turn of the loop keeps.
use Prim.Native.Nat.{◌≤◌}
use Rattle.blocks.proofs.Steps.{DaysLeft}
use Rattle.blocks.proofs.days_hold.Given as goal

abbrev pub invariant-loop-place : goal.invariant-loop-place
invariant-loop-place l = (l.place ≤ l.days) × DaysLeft l.day l.days l.block l.place
