-- `floor_over` is the greatest whole number not above z / q: f × q is z less a left-over below q. By the quotient and
-- remainder of each sign.
-- Assumes nothing.
use mathlib.Core.Path.{◌≡◌, sym, ap}
use Prim.Native.Nat.{ℕ, suc, ◌+◌, ◌*◌, ◌-◌, ◌/◌, ◌%◌, ◌<◌}
use native.Mathlib.Omega.{arith}
use native.Mathlib.Nat.{div-add-mod', mod-lt}
use lib.IntN.{ℤ, pos, negsuc, ◌+ℤ◌, ◌*ℤ◌}
use Rattle.integers.specs.Integers.{floor_over}
use Rattle.integers.proofs.Less.{less-pos, less-shift, less-add, less-times, less-same}

pub record Floor (z : ℤ) (q : ℕ) (f : ℤ) : Type 0 where
  pub left : ℕ
  pub small : left < q
  pub whole : z ≡ f *ℤ pos q +ℤ pos left

pub floor-is : (z : ℤ) (q : ℕ) → 0 < q → Floor z q (floor_over z q)
unfolding floor_over
floor-is (pos n) q h = record { left = n % q; small = mod-lt n h; whole = ap pos (sym (div-add-mod' n q)) }
floor-is (negsuc n) q h =
    record {
      left = q - suc (n % q);
      small = omega (arith, mod-lt n h);
      whole =
          less-same (negsuc n) (negsuc (n / q) *ℤ pos q +ℤ pos (q - suc (n % q))) 0 (suc n) (omega arith)
          (less-shift (negsuc (n / q) *ℤ pos q +ℤ pos (q - suc (n % q))) (0 * q + (q - suc (n % q))) (suc (n / q) * q + 0) 0 (suc n)
          (less-add (negsuc (n / q) *ℤ pos q) (pos (q - suc (n % q))) (0 * q) (suc (n / q) * q) (q - suc (n % q)) 0
          (less-times (negsuc (n / q)) 0 (suc (n / q)) q (omega arith)) (less-pos (q - suc (n % q))))
          (omega (arith, mod-lt n h, div-add-mod' n q)));
    }
