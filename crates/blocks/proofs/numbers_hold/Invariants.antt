-- What each turn of the loop keeps.
use Prim.Native.Nat.{◌+◌, ◌≤◌}
use mathlib.Core.Path.{◌≡◌}
use lib.ListN.{drop}
use Rattle.blocks.specs.Blocks.{has_numbers}
use Rattle.blocks.proofs.numbers_hold.Given as goal

abbrev pub invariant-loop-i : goal.invariant-loop-i
invariant-loop-i l = (l.i ≤ 13) × (has_numbers l.block (l.from + l.i) (drop l.i l.number-items) ≡ has_numbers l.block l.from l.number-items)
