-- Corrections and equations in naturals, as the code reckons them: a circle is put on before an equation is subtracted,
-- and Q needs no quarters.
-- Assumes nothing.
use mathlib.Core.Path.{◌≡◌}
use Prim.Native.Nat.{ℕ, ◌+◌, ◌*◌, ◌-◌, ◌/◌, ◌%◌, ◌≤◌, ◌<◌}
use native.Mathlib.Decide.{dec_le}
use native.Mathlib.Omega.{arith}
use native.Mathlib.Nat.{mul_comm, mul-le-mul, div-le_of_le-mul}
use lib.IntN.{pos, ◌+ℤ◌}
use borrow.Author.Tests.{le-leb, lt-leb}
use Rattle.integers.proofs.Less.{less-pos}
use Rattle.integers.proofs.Reduced.{less-reduced}
use Rattle.longitudes.specs.Longitudes.{circle, difference_of}
use Rattle.longitudes.proofs.Subtraction.{difference-law}
use Rattle.panchanga.specs.TrueLongitudes.{bhuja, bhuja_product, signed, corrected}

pub added : (mean x size : ℕ) → x ≤ 648000 → corrected mean x size ≡ (mean + size) % circle
unfolding corrected signed
added mean x size h =
    rw (le-leb x 648000 h)
    (less-reduced (pos mean +ℤ pos size) (mean + size) 0 (mean + size) circle 0 (omega arith) (less-pos (mean + size)) (omega arith))

pub subtracted : (mean x size : ℕ) → 648000 < x → size ≤ circle → corrected mean x size ≡ (mean + circle - size) % circle
unfolding corrected signed difference_of
subtracted mean x size h k = rw (lt-leb x 648000 h) (difference-law mean size k)

-- Q of an anomaly in the half circle that it is in: the same for s and what is left of the half
mirrored : (s t : ℕ) → s + t ≡ 648000 → bhuja_product s ≡ bhuja_product t
mirrored s t e =
    let a : 648000 - s ≡ t = omega arith in
    let b : 648000 - t ≡ s = omega arith in
    rw (a, b) (mul_comm s t)

pub first-half : (x : ℕ) → x ≤ 648000 → bhuja_product x ≡ bhuja_product (bhuja x)
unfolding bhuja
first-half x h = go (dec_le x 324000)
  where
    go : Dec (x ≤ 324000) → bhuja_product x ≡ bhuja_product (bhuja x)
    go (yes k) = rw (le-leb _ _ k)
    go (no k) = let l : 324000 < x = omega arith in rw (lt-leb _ _ l, le-leb _ _ h) (mirrored x (648000 - x) (omega arith))

pub second-half : (x : ℕ) → 648000 < x → x < 1296000 → bhuja_product (x - 648000) ≡ bhuja_product (bhuja x)
unfolding bhuja
second-half x h l = go (dec_le x 972000)
  where
    quarter : 324000 < x
    quarter = omega arith

    go : Dec (x ≤ 972000) → bhuja_product (x - 648000) ≡ bhuja_product (bhuja x)
    go (yes k) = rw (lt-leb _ _ quarter, lt-leb _ _ h, le-leb _ _ k)
    go (no k) =
        let m : 972000 < x = omega arith in
        rw (lt-leb _ _ quarter, lt-leb _ _ h, lt-leb _ _ m) (mirrored (x - 648000) (1296000 - x) (omega arith))

-- what the code reckons of an equation fits
pub record Sized (scale divisor Q : ℕ) : Type 0 where
  pub product : Q ≤ 419904000000
  pub scaled : scale * Q ≤ 72000 * 419904000000
  pub small : scale * Q / (divisor - Q) ≤ 1295999

pub sized : (scale divisor s : ℕ) → scale ≤ 72000 → 522547200000 ≤ divisor → s ≤ 648000 → Sized scale divisor (s * (648000 - s))
sized scale divisor s h k l =
    let Q = s * (648000 - s) in
    let b : Q ≤ 419904000000 = mul-le-mul {n₁ = s} {m₁ = 648000 - s} {n₂ = 648000} {m₂ = 648000} l (omega arith) in
    let p : scale * Q ≤ 72000 * 419904000000 = mul-le-mul {n₁ = scale} {m₁ = Q} {n₂ = 72000} {m₂ = 419904000000} h b in
    record { product = b; scaled = p; small = div-le_of_le-mul (divisor - Q) (wide (divisor - Q) (omega arith) p) }
  where
    wide : {x : ℕ} (d : ℕ) → 102643200000 ≤ d → x ≤ 72000 * 419904000000 → x ≤ d * 1295999
    wide d u v = omega arith
