-- What each turn of the loop keeps.
use Prim.Native.Nat.{◌≤◌}
use mathlib.Core.Path.{◌≡◌}
use lib.ListN.{length}
use Rattle.blocks.proofs.Steps.{DaysPut}
use Rattle.blocks.proofs.put_days.Given as goal

abbrev pub invariant-loop-place : goal.invariant-loop-place
invariant-loop-place l =
    (l.place ≤ l.days) × (length l.block ≡ length l.initial.block) × DaysPut l.day l.days l.initial.block l.block l.place
