-- `rounded_up a b` is the least whole number k with a ≤ k × b; by the quotient's left-over.
-- Assumes nothing.
use Prim.Native.Nat.{ℕ, ◌+◌, ◌*◌, ◌-◌, ◌≤◌, ◌<◌}
use native.Mathlib.Omega.{arith}
use native.Mathlib.Nat.{div-add-mod', mod-lt, lt_of_mul-lt-mul_right}
use Rattle.integers.specs.RoundedUp.{rounded_up}

pub record LeastAbove (a b k : ℕ) : Type 0 where
  pub enough : a ≤ k * b
  pub least : (j : ℕ) → a ≤ j * b → k ≤ j

pub rounded-up : (a b : ℕ) → 0 < b → LeastAbove a b (rounded_up a b)
rounded-up a b h =
    record {
      enough = omega (arith, mod-lt (a + (b - 1)) h, div-add-mod' (a + (b - 1)) b);
      least = λ j l. let below : rounded_up a b * b < (j + 1) * b = omega (arith, div-add-mod' (a + (b - 1)) b) in omega (arith, lt_of_mul-lt-mul_right b {m = rounded_up a b} {n = j + 1} below);
    }
