-- What each turn of the loop keeps.
use Prim.Native.Nat.{◌*◌, ◌≤◌}
use mathlib.Core.Path.{◌≡◌}
use lib.ListN.{take}
use Rattle.blocks.specs.Blocks.{checksum}
use Rattle.blocks.proofs.sum_of.Given as goal

abbrev pub invariant-loop-i : goal.invariant-loop-i
invariant-loop-i l = (l.i ≤ 508) × (l.sum ≤ 129540 * l.i) × (l.sum ≡ checksum (take l.i l.block))
