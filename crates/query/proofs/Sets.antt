-- What a set of numbers in range has, and what one number more adds to it. A bit above another is an even number of
-- times that one, so neither is seen at the other's place.
-- Assumes nothing.
use mathlib.Core.Path.{◌≡◌, refl, ap, sym, ◌∙◌}
use mathlib.Core.Bool.{Bool, true, false, cond, ◌&&◌, ◌||◌, and-eq-true_iff, false≢true}
use Prim.Native.Nat.{ℕ, suc, ◌+◌, ◌*◌, ◌-◌, ◌/◌, ◌%◌, ◌^◌, ◌≤◌, ◌<◌, min}
use native.Mathlib.Decide.{dec_le}
use native.Mathlib.Nat.{pow-succ', mul-one, mul_assoc, add-mul-div_left, div-add-mod', div-div-eq-div-mul, div-eq_of_lt, mul-div_right}
use native.Mathlib.Omega.{arith}
use lib.Dec.{leb, ltb, eqb}
use lib.Pow.{pow-add, pow_pos, pow_mono}
use borrow.Author.Tests.{ltb-true, eqb-true, eqb-false, eq-eqb, ne_eqb}
use Rattle.query.specs.declared.Asked.{Asked}
use Rattle.query.specs.Conditions.{number_bit, has_number, with_number, numbers_in_range, asked_in_range}
use Rattle.query.proofs.Numbers.{not-had}

-- a bit above another
above : (p k : ℕ) → p < k → 2 ^ k ≡ 2 ^ p * (2 * 2 ^ (k - p - 1))
above p k h =
    let all : p + suc (k - p - 1) ≡ k = omega arith in
    sym (ap (λ (i : ℕ). 2 ^ i) all) ∙ pow-add 2 p (suc (k - p - 1)) ∙ ap (λ (x : ℕ). 2 ^ p * x) (pow-succ' 2 (k - p - 1))

-- a bit m added to a set, seen at its own place, at a lower one and at a higher one
at-its-own : (s m : ℕ) → 0 < m → (s + m) / m ≡ s / m + 1
at-its-own s m pos = ap (λ (x : ℕ). (s + x) / m) (sym (mul-one m)) ∙ add-mul-div_left s 1 pos

at-lower : (s m k : ℕ) → 0 < m → (s + m * (2 * k)) / m % 2 ≡ s / m % 2
at-lower s m k pos = omega (arith, add-mul-div_left s (2 * k) {y = m} pos)

in-steps : (n m k : ℕ) → n / (m * (2 * k)) ≡ n / m / 2 / k
in-steps n m k =
    ap (λ (x : ℕ). n / x) (sym (mul_assoc m 2 k))
    ∙ sym (div-div-eq-div-mul n (m * 2) k)
    ∙ ap (λ (x : ℕ). x / k) (sym (div-div-eq-div-mul n m 2))

at-higher : (s m k : ℕ) → 0 < m → s / m % 2 ≡ 0 → (s + m) / (m * (2 * k)) ≡ s / (m * (2 * k))
at-higher s m k pos even =
    let same : (s + m) / m / 2 ≡ s / m / 2 = omega (arith, at-its-own s m pos) in
    in-steps (s + m) m k ∙ ap (λ (x : ℕ). x / k) same ∙ sym (in-steps s m k)

more-has : (s n : ℕ) → has_number s n ≡ false → has_number (s + number_bit n) n ≡ true
unfolding has_number
more-has s n none = eq-eqb ((s + number_bit n) / number_bit n % 2) 1 (omega (arith, not-had s n none, at-its-own s (number_bit n) (pow_pos (min n 31))))

no_other : (s n v : ℕ) → v ≤ 30 → (v ≡ n → ⊥) → has_number s n ≡ false → has_number (s + number_bit n) v ≡ has_number s v
unfolding has_number
no_other s n v low apart none = rw place (go (dec_le v (min n 31)))
  where
    place : min v 31 ≡ v
    place = omega arith

    go : Dec (v ≤ min n 31) → eqb ((s + number_bit n) / 2 ^ v % 2) 1 ≡ eqb (s / 2 ^ v % 2) 1
    go (yes l) =
        ap (λ (x : ℕ). eqb ((s + x) / 2 ^ v % 2) 1) (above v (min n 31) (omega arith))
        ∙ ap (λ (x : ℕ). eqb x 1) (at-lower s (2 ^ v) (2 ^ (min n 31 - v - 1)) (pow_pos v))
    go (no l) =
        let up = above (min n 31) v (omega arith) in
        ap (λ (x : ℕ). eqb ((s + number_bit n) / x % 2) 1) up
        ∙ ap (λ (x : ℕ). eqb (x % 2) 1) (at-higher s (number_bit n) (2 ^ (v - min n 31 - 1)) (pow_pos (min n 31)) (not-had s n none))
        ∙ sym (ap (λ (x : ℕ). eqb (s / x % 2) 1) up)

-- THE LAW of one number more: the set has that number, and else what it had
pub with-has : (a : Asked) (n v : ℕ) → v ≤ 30 → has_number (with_number a n).set v ≡ (eqb v n || has_number a.set v)
unfolding with_number
with-has a n v low = go (has_number a.set n) (eqb v n) refl refl
  where
    go : (had is : Bool) → has_number a.set n ≡ had → eqb v n ≡ is → has_number (cond had a.set (a.set + number_bit n)) v ≡ (is || has_number a.set v)
    go true true h i = ap (has_number a.set) (eqb-true v n i) ∙ h
    go true false h i = refl
    go false true h i = ap (has_number (a.set + number_bit n)) (eqb-true v n i) ∙ more-has a.set n h
    go false false h i = no_other a.set n v low (eqb-false v n i) h

-- a set below a bit has no number from it on
none_above : (s largest n : ℕ) → largest ≤ 30 → s < 2 ^ (largest + 1) → largest < n → has_number s n ≡ false
unfolding has_number
none_above s largest n most below h =
    let up : 2 ^ (largest + 1) ≤ number_bit n = pow_mono (omega arith) in
    let none : s / number_bit n ≡ 0 = div-eq_of_lt (omega arith) in
    ne_eqb (s / number_bit n % 2) 1 (λ one. omega (arith, none))

-- a set that a bit divides has no number below it
none_below : (s least n : ℕ) → s % 2 ^ least ≡ 0 → n ≤ 30 → n < least → has_number s n ≡ false
unfolding has_number
none_below s least n even low h =
    let place : min n 31 ≡ n = omega arith in
    let half = 2 ^ (least - n - 1) * (s / 2 ^ least) in
    let whole : s ≡ 2 ^ n * (2 * half) = omega (arith, div-add-mod' s (2 ^ least), ap (λ (x : ℕ). s / 2 ^ least * x) (above n least h)) in
    let there : s / 2 ^ n ≡ 2 * half = ap (λ (x : ℕ). x / 2 ^ n) whole ∙ mul-div_right (2 * half) (pow_pos n) in
    rw place (ne_eqb (s / 2 ^ n % 2) 1 (λ one. omega (arith, there)))

both : (a b : Bool) → (a && b) ≡ true → (a ≡ true) × (b ≡ true)
both a b e = (and-eq-true_iff a b).0 e

-- THE LAW of a set in range: each of its numbers is from the least to the largest
pub in-range-has : (a : Asked) (least largest : ℕ) → largest ≤ 30 → asked_in_range a least largest ≡ true → a.given ≡ true → (n : ℕ) → has_number a.set n ≡ true → (least ≤ n) × (n ≤ largest)
unfolding numbers_in_range
in-range-has a least largest most e given n has = (from, to)
  where
    below : Bool
    below = ltb a.set (2 ^ (largest + 1))

    divided : Bool
    divided = eqb (a.set % 2 ^ least) 0

    tested : (leb 1 a.set && (below && divided)) ≡ true
    tested = rw given at e

    ends : (below ≡ true) × (divided ≡ true)
    ends = both below divided (both (leb 1 a.set) (below && divided) tested).1

    never : {P : Type 0} → has_number a.set n ≡ false → P
    never lacks = absurd (false≢true (sym lacks ∙ has))

    go-to : Dec (n ≤ largest) → n ≤ largest
    go-to (yes l) = l
    go-to (no l) = never (none_above a.set largest n most (ltb-true a.set (2 ^ (largest + 1)) ends.0) (omega arith))

    to : n ≤ largest
    to = go-to (dec_le n largest)

    go_from : Dec (least ≤ n) → least ≤ n
    go_from (yes l) = l
    go_from (no l) = never (none_below a.set least n (eqb-true (a.set % 2 ^ least) 0 ends.1) (omega (arith, to)) (omega arith))

    from : least ≤ n
    from = go_from (dec_le least n)
