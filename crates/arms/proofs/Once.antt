-- Division by 3600.0 rounds once: the cast of a 32-bit number is exact, so the quotient is the one rounding.
-- Assumes nothing.
use mathlib.Core.Path.{◌≡◌, refl, ap, ◌∙◌}
use mathlib.Core.Bool.{Bool, true, false}
use Prim.Native.Nat.{ℕ, suc, ◌*◌, ◌^◌}
use native.Mathlib.Nat.{mul_assoc, mul_comm, mul-pos, le_of_lt, le_trans}
use lib.IntN.{ℤ, pos, negsuc}
use lib.Dec.{lit<, lit≤}
use lib.Ieee.{Float, nan, inf, fin, binary64, up, down, unlike, round, of_int, of_bits, div}
use lib.Ieee.Fits.{down_pos}
use lib.Ieee.Exact.{HasValue}
use lib.Ieee.Back.{round_whole}
use lib.Ieee.Scale.{round_same}
use mir.Syntax.{w32}
use mir.Val.{SFits}
use Rattle.arms.specs.Degrees.{degrees_of}

-- the bits of 3600.0
abbrev pub bits-3600 : ℕ
bits-3600 = 4660134898793709568

is-3600 : of_bits binary64 bits-3600 ≡ fin false 225 (pos 4)
unfolding of_bits
is-3600 = refl

-- a float whose value is n, of either sign, by 3600.0
quotient : (x : Float) (s : Bool) (n : ℕ) → HasValue x s n 1 → div binary64 x (fin false 225 (pos 4)) ≡ round binary64 s n 3600
unfolding div
quotient nan s n h = absurd h
quotient (inf t) s n h = absurd h
quotient (fin t m e) s n h =
    ap (λ (b : Bool). round binary64 b (m * up e * 1) (225 * 2 ^ 4 * down e)) (sign t s h.0)
    ∙ round_same binary64 s (m * up e * 1) (225 * 2 ^ 4 * down e) n 3600 (mul-pos (lit< tt) (down_pos e)) (lit< tt)
    (ap (λ (z : ℕ). z * 3600) h.1 ∙ mul_assoc n (down e) 3600 ∙ ap (λ (z : ℕ). n * z) (mul_comm (down e) 3600))
  where
    sign : (t s : Bool) → t ≡ s → unlike t false ≡ s
    sign true s h = h
    sign false s h = h

pub once : (z : ℤ) → SFits w32 z → div binary64 (of_int binary64 z) (of_bits binary64 bits-3600) ≡ degrees_of z
unfolding of_int degrees_of
once (pos n) h =
    ap (div binary64 (round binary64 false n 1)) is-3600
    ∙ quotient (round binary64 false n 1) false n (round_whole binary64 false n (le_trans (le_of_lt h.sfits) (lit≤ tt)))
once (negsuc n) h =
    ap (div binary64 (round binary64 true (suc n) 1)) is-3600
    ∙ quotient (round binary64 true (suc n) 1) true (suc n) (round_whole binary64 true (suc n) (le_trans h.sfits (lit≤ tt)))
