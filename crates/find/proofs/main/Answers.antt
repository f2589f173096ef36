-- `main` is safe and ends: the array has as many bytes as a text may not have, which is not found by counting them.
-- Assumes nothing.
use Prim.Native.Nat.{ℕ, ◌≤◌}
use mathlib.Core.Path.{◌≡◌, sym}
use native.Mathlib.Omega.{arith}
use lib.ListN.{length-replicate}
use Rattle.find.proofs.main.Goals as goal

as-many : (n m : ℕ) → n ≡ m → (n ≤ m) × (m ≤ n)
as-many n m e = (omega arith, omega arith)

pub slice_bounds-read_and_find-end : goal.slice_bounds-read_and_find-end
slice_bounds-read_and_find-end c = sym (length-replicate {0} {A = ℕ} 524288 0)

pub read_and_find-requires : goal.read_and_find-requires
read_and_find-requires c = as-many _ _ (length-replicate {0} {A = ℕ} 524288 0)
