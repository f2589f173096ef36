-- What each turn of the loop keeps.
use Prim.Native.Nat.{◌-◌, ◌≤◌}
use mathlib.Core.Path.{◌≡◌}
use lib.ListN.{length, replicate}
use Rattle.entries.specs.Entries.{with_entries_from}
use Rattle.blocks.proofs.put_zeros.Given as goal

abbrev pub invariant-loop-i : goal.invariant-loop-i
invariant-loop-i l =
    (l.i ≤ 127) × (length l.block ≡ length l.initial.block) × (with_entries_from l.block l.i (replicate (127 - l.i) 0) ≡ with_entries_from l.initial.block l.from (replicate (127 - l.from) 0))
