-- What each turn of the loop keeps.
use Prim.Native.Nat.{◌+◌, ◌≤◌}
use mathlib.Core.Path.{◌≡◌}
use lib.ListN.{length, drop}
use Rattle.entries.specs.Entries.{with_entries_from}
use Rattle.blocks.proofs.put_numbers.Given as goal

abbrev pub invariant-loop-i : goal.invariant-loop-i
invariant-loop-i l =
    (l.i ≤ 13) × (length l.block ≡ length l.initial.block) × (with_entries_from l.block (l.from + l.i) (drop l.i l.number-items) ≡ with_entries_from l.initial.block l.from l.number-items)
