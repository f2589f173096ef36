-- What each turn of the loop keeps, and what falls.
use Prim.Native.Nat.{◌+◌, ◌-◌, ◌≤◌}
use Rattle.scan_days.proofs.show_scan.Given as goal

abbrev pub invariant-loop-day : goal.invariant-loop-day
invariant-loop-day l = l.initial.day ≤ l.day

abbrev pub decreases-loop-day : goal.decreases-loop-day
decreases-loop-day l = l.last + 1 - l.day
