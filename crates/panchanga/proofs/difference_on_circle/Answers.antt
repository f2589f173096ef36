-- `difference_on_circle` meets its contract: of two numbers on the circle, one law for each order.
use mathlib.Core.Path.{◌≡◌, sym}
use native.Mathlib.Omega.{arith}
use Prim.Native.Nat.{ℕ, ◌+◌, ◌-◌, ◌≤◌, ◌<◌}
use Rattle.longitudes.specs.Longitudes.{circle, difference_of}
use Rattle.longitudes.proofs.Subtraction.{difference-law}
use Rattle.panchanga.proofs.difference_on_circle.Goals as goal

back : (a b : ℕ) → a < circle → b < circle → b ≤ a → difference_of a b ≡ a - b
back a b h k l = omega (arith, difference-law a b (omega arith))

over : (a b : ℕ) → a < circle → b < circle → a < b → difference_of a b ≡ a + circle - b
over a b h k l = omega (arith, difference-law a b (omega arith))

pub returns-then-b-a : goal.returns-then-b-a
returns-then-b-a c = sym (back _ _ c.if-a-lt-CIRCLE.true c.if-b-lt-CIRCLE.true c.if-b-a.true)

pub returns-then-b-lt-CIRCLE : goal.returns-then-b-lt-CIRCLE
returns-then-b-lt-CIRCLE c = sym (over _ _ c.if-a-lt-CIRCLE.true c.if-b-lt-CIRCLE.true c.if-b-a.false)
