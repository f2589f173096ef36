-- `difference` in naturals: circles are put on until nothing is negative, and the reduction takes them off again.
-- Assumes nothing.
use mathlib.Core.Path.{◌≡◌, ◌∙◌}
use Prim.Native.Nat.{ℕ, ◌+◌, ◌*◌, ◌-◌, ◌/◌, ◌%◌, ◌≤◌, ◌<◌}
use native.Mathlib.Omega.{arith}
use native.Mathlib.Decide.{dec_le}
use lib.IntN.{pos, ◌-ℤ◌}
use Rattle.integers.proofs.Less.{less-pos, less-minus}
use Rattle.integers.proofs.Reduced.{less-reduced, reduced-small}
use Rattle.longitudes.specs.Longitudes.{circle, difference_of}

pub difference-small : (a b : ℕ) → difference_of a b < circle
unfolding difference_of
difference-small a b = reduced-small (pos a -ℤ pos b) circle (omega arith)

pub is-small : (x a b : ℕ) → x ≡ difference_of a b → x < circle
is-small x a b e = omega (arith, difference-small a b)

-- with t circles put on, a is N more than b
pub difference-by : (a b N t : ℕ) → a + t * circle ≡ b + N → difference_of a b ≡ N % circle
unfolding difference_of
difference-by a b N t e =
    less-reduced (pos a -ℤ pos b) (a + 0) (0 + b) N circle t (omega arith) (less-minus (pos a) (pos b) a 0 b 0 (less-pos a) (less-pos b)) (omega arith)

pub difference-law : (a b : ℕ) → b ≤ circle → difference_of a b ≡ (a + circle - b) % circle
difference-law a b h = difference-by a b (a + circle - b) 1 (omega arith)

-- from the places on the circle
pub difference-back : (a b : ℕ) → b % circle ≤ a % circle → difference_of a b ≡ a % circle - b % circle
difference-back a b h = difference-by a b (a + b / circle * circle - b) (b / circle) (omega arith) ∙ omega arith

pub difference-over : (a b : ℕ) → a % circle < b % circle → difference_of a b ≡ a % circle + circle - b % circle
difference-over a b h = difference-by a b (a + (b / circle + 1) * circle - b) (b / circle + 1) (omega arith) ∙ omega arith

-- the way back is the rest of the circle
pub difference-turned : (x a b : ℕ) → x ≡ difference_of a b → 0 < x → difference_of b a ≡ circle - x
difference-turned x a b e h = go (dec_le (b % circle) (a % circle)) (dec_le (a % circle) (b % circle))
  where
    go : Dec (b % circle ≤ a % circle) → Dec (a % circle ≤ b % circle) → difference_of b a ≡ circle - x
    go (yes l) (yes m) = absurd (omega (arith, difference-back a b l))
    go (yes l) (no m) = omega (arith, difference-back a b l, difference-over b a (omega arith))
    go (no l) m = omega (arith, difference-over a b (omega arith), difference-back b a (omega arith))
