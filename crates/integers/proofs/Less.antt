-- `Less z a b`: z is a − b, for naturals a and b. Each operation on integers has a rule for it, so that an equation of
-- integers becomes one of naturals.
-- Assumes nothing.
use mathlib.Core.Path.{◌≡◌, refl, ap}
use mathlib.Core.Bool.{Bool, true, false, cond}
use Prim.Native.Nat.{ℕ, zero, suc, ◌+◌, ◌*◌, ◌-◌}
use native.Mathlib.Omega.{arith}
use lib.Dec.{ltb}
use lib.IntN.{ℤ, pos, negsuc, neg_ℤ, sub_ℕ, ◌+ℤ◌, ◌-ℤ◌, ◌*ℤ◌}
use borrow.Author.Tests.{ltb-true, ltb-false}

abbrev pub Less : ℤ → ℕ → ℕ → Type 0
Less (pos n) a b = a ≡ b + n
Less (negsuc n) a b = b ≡ a + suc n

pub less-pos : (n : ℕ) → Less (pos n) n 0
less-pos n = omega arith

pub less-neg : (x : ℤ) (a b : ℕ) → Less x a b → Less (neg_ℤ x) b a
less-neg (pos zero) a b h = omega arith
less-neg (pos (suc n)) a b h = h
less-neg (negsuc n) a b h = h

less-sub : (a b : ℕ) → Less (sub_ℕ a b) a b
less-sub a b = go (ltb a b) refl
  where
    go : (t : Bool) → ltb a b ≡ t → Less (cond t (negsuc (b - suc a)) (pos (a - b))) a b
    go true e = omega (arith, ltb-true a b e)
    go false e = omega (arith, ltb-false a b e)

-- a difference does not depend on the two naturals that show it
pub less-shift : (z : ℤ) (a b c d : ℕ) → Less z a b → a + d ≡ b + c → Less z c d
less-shift (pos n) a b c d h e = omega arith
less-shift (negsuc n) a b c d h e = omega arith

pub less-add : (x y : ℤ) (a b c d : ℕ) → Less x a b → Less y c d → Less (x +ℤ y) (a + c) (b + d)
less-add (pos m) (pos n) a b c d h k = omega arith
less-add (pos m) (negsuc n) a b c d h k = less-shift (sub_ℕ m (suc n)) m (suc n) (a + c) (b + d) (less-sub m (suc n)) (omega arith)
less-add (negsuc m) (pos n) a b c d h k = less-shift (sub_ℕ n (suc m)) n (suc m) (a + c) (b + d) (less-sub n (suc m)) (omega arith)
less-add (negsuc m) (negsuc n) a b c d h k = omega arith

pub less-minus : (x y : ℤ) (a b c d : ℕ) → Less x a b → Less y c d → Less (x -ℤ y) (a + d) (b + c)
less-minus x y a b c d h k = less-add x (neg_ℤ y) a b d c h (less-neg y c d k)

pub less-times : (x : ℤ) (a b q : ℕ) → Less x a b → Less (x *ℤ pos q) (a * q) (b * q)
less-times (pos m) a b q h = omega (arith, ap (λ (t : ℕ). t * q) h)
less-times (negsuc m) a b q h = less-neg (pos (suc m * q)) (b * q) (a * q) (omega (arith, ap (λ (t : ℕ). t * q) h))

pub less_by : (y : ℤ) (n c d : ℕ) → Less y c d → Less (pos n *ℤ y) (n * c) (n * d)
less_by (pos m) n c d h = omega (arith, ap (λ (t : ℕ). n * t) h)
less_by (negsuc m) n c d h = less-neg (pos (n * suc m)) (n * d) (n * c) (omega (arith, ap (λ (t : ℕ). n * t) h))

-- two integers that are the same difference are equal
pub less-same : (x y : ℤ) (a b : ℕ) → Less x a b → Less y a b → x ≡ y
less-same (pos m) (pos n) a b h k = ap pos (omega arith)
less-same (pos m) (negsuc n) a b h k = absurd (omega arith)
less-same (negsuc m) (pos n) a b h k = absurd (omega arith)
less-same (negsuc m) (negsuc n) a b h k = ap negsuc (omega arith)
