-- `forwards` meets its contract: from the rest of the circle on there is one circle to take off, and before it none.
-- Assumes nothing.
use mathlib.Core.Path.{◌≡◌, sym, ◌∙◌}
use Prim.Native.Nat.{ℕ, ◌+◌, ◌-◌, ◌%◌, ◌≤◌, ◌<◌}
use native.Mathlib.Nat.{mod-eq_of_lt, mod-eq-sub-mod}
use native.Mathlib.Omega.{arith}
use Rattle.older_motions.proofs.forwards.Goals as goal

none-off : (from by circle : ℕ) → from < circle - by → from + by ≡ (from + by) % circle
none-off from by circle h = sym (mod-eq_of_lt {n = from + by} {m = circle} (omega arith))

one-off : (from by circle : ℕ) → from < circle → by ≤ circle → circle - by ≤ from → from - (circle - by) ≡ (from + by) % circle
one-off from by circle small most h =
    let off : from - (circle - by) ≡ from + by - circle = omega arith in
    let left : (from + by - circle) % circle ≡ from + by - circle = mod-eq_of_lt {n = from + by - circle} {m = circle} (omega arith) in
    off ∙ sym left ∙ sym (mod-eq-sub-mod {n = from + by} {m = circle} (omega arith))

pub returns-then-from-rest : goal.returns-then-from-rest
returns-then-from-rest c = none-off _ _ _ c.if-from-rest.true

pub returns-else-from-rest : goal.returns-else-from-rest
returns-else-from-rest c = one-off _ _ _ c.requires.0 c.requires.1 c.if-from-rest.false
