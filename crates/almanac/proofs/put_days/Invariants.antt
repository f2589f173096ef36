-- What each turn of the loop keeps.
use mathlib.Core.Path.{◌≡◌}
use Prim.Native.Nat.{◌≤◌}
use lib.ListN.{length}
use Rattle.almanac.proofs.Answers.{DaysPut}
use Rattle.almanac.proofs.put_days.Given as goal

abbrev pub invariant-loop-index : goal.invariant-loop-index
invariant-loop-index l =
    (l.index ≤ l.count) × (length l.list ≡ length l.initial.list) × DaysPut l.first l.count l.initial.list l.list l.index
