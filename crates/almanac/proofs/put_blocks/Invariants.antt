-- What each turn of the loop keeps.
use Prim.Native.Nat.{◌≤◌}
use Rattle.almanac.proofs.Writing.{Written}
use Rattle.almanac.proofs.put_blocks.Given as goal

abbrev pub invariant-loop-index : goal.invariant-loop-index
invariant-loop-index l = (l.index ≤ l.blocks) × Written l.first l.count l.initial.file l.file l.index
