-- Sets of numbers: the bit of a number fits into 32 bits, and so does a set with one number more; the set of one number
-- has that number alone, by computing each pair of places.
-- Assumes nothing.
use mathlib.Core.Path.{◌≡◌, refl, ap, sym, ◌∙◌}
use mathlib.Core.Bool.{Bool, true, false, not, ◌&&◌, and-eq-true_iff, false≢true}
use Prim.Native.Nat.{ℕ, zero, suc, ◌+◌, ◌*◌, ◌-◌, ◌/◌, ◌%◌, ◌^◌, ◌≤◌, ◌<◌, min}
use native.Mathlib.Decide.{dec_le}
use native.Mathlib.Nat.{mul-le-mul_left, lt-div-mul-add, div-mul-le_self}
use native.Mathlib.Omega.{arith}
use lib.Dec.{leb, ltb, eqb}
use lib.Pow.{pow-add, pow_pos, shl_exact}
use borrow.Author.Tests.{eqb-false, ne_eqb, le-leb, lt-leb}
use Rattle.query.specs.Conditions.{number_bit, has_number}

-- a bit, and twice it as often as it goes into 32 bits
halves : (p : ℕ) → p ≤ 31 → 2 ^ p * (2 * 2 ^ (31 - p)) ≡ 2 ^ 32
halves p h =
    let all : p + (31 - p) ≡ 31 = omega arith in
    let together : 2 ^ (p + (31 - p)) ≡ 2 ^ 31 = ap (λ (k : ℕ). 2 ^ k) all in
    omega (arith, pow-add 2 p (31 - p), together)

-- a bit that a set does not have can be added to it
room : (s m M : ℕ) → 0 < m → m * (2 * M) ≡ 4294967296 → s < 4294967296 → s / m % 2 ≡ 0 → s + m < 4294967296
room s m M pos whole small even =
    let q = s / m in
    let above : s < q * m + m = lt-div-mul-add {a = s} {b = m} pos in
    let below : q * m ≤ s = div-mul-le_self s m in
    go (dec_le (q + 2) (2 * M)) above below
  where
    go : Dec (s / m + 2 ≤ 2 * M) → s < s / m * m + m → s / m * m ≤ s → s + m < 4294967296
    go (yes l) above below = omega (arith, mul-le-mul_left m l)
    go (no l) above below =
        let most : 2 * M ≤ s / m = omega (arith, even) in
        absurd (omega (arith, mul-le-mul_left m most))

pub bit-fits : (n place : ℕ) → place ≡ min n 31 → (1 * 2 ^ place) % 2 ^ 32 ≡ number_bit n
bit-fits n place e = shl_exact {a = 1} 1 place 32 (omega arith) (omega arith) ∙ rw e (omega arith)

pub not-had : (s n : ℕ) → has_number s n ≡ false → s / number_bit n % 2 ≡ 0
unfolding has_number
not-had s n e = omega (arith, eqb-false (s / number_bit n % 2) 1 e)

pub more-fits : (s n : ℕ) → s < 2 ^ 32 → has_number s n ≡ false → s + number_bit n < 2 ^ 32
more-fits s n h e = room s (number_bit n) (2 ^ (31 - min n 31)) (pow_pos (min n 31)) (halves (min n 31) (omega arith)) h (not-had s n e)

-- a test that holds for each number below n, by computing it for each
all_below : (ℕ → Bool) → ℕ → Bool
all_below test zero = true
all_below test (suc n) = test n && all_below test n

both : (a b : Bool) → (a && b) ≡ true → (a ≡ true) × (b ≡ true)
both a b e = (and-eq-true_iff a b).0 e

below : (test : ℕ → Bool) (n : ℕ) → all_below test n ≡ true → (i : ℕ) → i < n → test i ≡ true
unfolding all_below
below test zero e i h = absurd (omega arith)
below test (suc n) e i h = go (dec_le n i) (below test n (both (test n) (all_below test n) e).1 i)
  where
    go : Dec (n ≤ i) → (i < n → test i ≡ true) → test i ≡ true
    go (yes l) rest = ap test {x = i} {y = n} (omega arith) ∙ (both (test n) (all_below test n) e).0
    go (no l) rest = rest (omega arith)

same : Bool → Bool → Bool
same true b = b
same false b = not b

same-is : (a b : Bool) → same a b ≡ true → a ≡ b
unfolding same
same-is true true e = refl
same-is true false e = absurd (false≢true e)
same-is false true e = absurd (false≢true e)
same-is false false e = refl

-- two places have one bit where they are one
each-apart : all_below (λ (p : ℕ). all_below (λ (k : ℕ). same (eqb (2 ^ p / 2 ^ k % 2) 1) (eqb k p)) 31) 32 ≡ true
unfolding all_below same
each-apart = refl

-- a number up to 30 is another than w where it is another than the place of w
at_its_place : (w v : ℕ) → v ≤ 30 → eqb v (min w 31) ≡ eqb v w
at_its_place w v h = go (dec_le 31 w)
  where
    go : Dec (31 ≤ w) → eqb v (min w 31) ≡ eqb v w
    go (yes l) = ne_eqb v (min w 31) (λ e. omega arith) ∙ sym (ne_eqb v w (λ e. omega arith))
    go (no l) = ap (eqb v) (omega arith)

-- the set of one number has no other
pub one_has : (w v : ℕ) → v ≤ 30 → has_number (number_bit w) v ≡ eqb v w
unfolding has_number
one_has w v h =
    let place : min v 31 ≡ v = omega arith in
    let here = below (λ (p : ℕ). all_below (λ (k : ℕ). same (eqb (2 ^ p / 2 ^ k % 2) 1) (eqb k p)) 31) 32 each-apart (min w 31) (omega arith) in
    rw place (same-is _ _ (below (λ (k : ℕ). same (eqb (2 ^ min w 31 / 2 ^ k % 2) 1) (eqb k (min w 31))) 31 here v (omega arith)) ∙ at_its_place w v h)

-- the set of one number is in range where the number is: below a bit
abbrev inside : ℕ → ℕ → Bool
inside past p = leb 1 (2 ^ p) && (ltb (2 ^ p) past && eqb (2 ^ p % 1) 0)

each-tithi : all_below (λ (p : ℕ). same (inside (2 ^ 30) p) (leb p 29)) 32 ≡ true
unfolding all_below same
each-tithi = refl

each-nakshatra : all_below (λ (p : ℕ). same (inside (2 ^ 27) p) (leb p 26)) 32 ≡ true
unfolding all_below same
each-nakshatra = refl

low-at-its-place : (w largest : ℕ) → largest ≤ 30 → leb (min w 31) largest ≡ leb w largest
low-at-its-place w largest h = go (dec_le w largest)
  where
    go : Dec (w ≤ largest) → leb (min w 31) largest ≡ leb w largest
    go (yes l) = le-leb (min w 31) largest (omega arith) ∙ sym (le-leb w largest l)
    go (no l) = lt-leb (min w 31) largest (omega arith) ∙ sym (lt-leb w largest (omega arith))

pub one-tithi : (w : ℕ) → inside (2 ^ 30) (min w 31) ≡ leb w 29
one-tithi w = same-is _ _ (below (λ (p : ℕ). same (inside (2 ^ 30) p) (leb p 29)) 32 each-tithi (min w 31) (omega arith)) ∙ low-at-its-place w 29 (omega arith)

pub one-nakshatra : (w : ℕ) → inside (2 ^ 27) (min w 31) ≡ leb w 26
one-nakshatra w = same-is _ _ (below (λ (p : ℕ). same (inside (2 ^ 27) p) (leb p 26)) 32 each-nakshatra (min w 31) (omega arith)) ∙ low-at-its-place w 26 (omega arith)
