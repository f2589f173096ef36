-- What each turn of the loop keeps, and what falls.
use Prim.Native.Nat.{◌≤◌, ◌-◌}
use Rattle.text_cases.proofs.print_numbers.Given as goal

abbrev pub invariant-loop-power : goal.invariant-loop-power
invariant-loop-power l = (1 ≤ l.power) × (l.power ≤ 1000000000)

abbrev pub decreases-loop-power : goal.decreases-loop-power
decreases-loop-power l = 1000000000 - l.power
