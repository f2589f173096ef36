-- What each turn of the loop keeps: the bytes passed are zero.
use mathlib.Core.Path.{◌≡◌}
use mathlib.Core.Bool.{true}
use Prim.Native.Nat.{ℕ}
use lib.Dec.{eqb}
use lib.ListN.{take}
use Rattle.std.specs.List.{list_all}
use Rattle.blocks.proofs.zeros_hold.Given as goal

abbrev pub invariant-loop-byte : goal.invariant-loop-byte
invariant-loop-byte l = list_all (λ (b : ℕ). eqb b 0) (take l.byte-index l.byte-items) ≡ true
