-- Names differ: each name of a kind, in both spellings, is read as its own number. One test that computes over each
-- list, and a law that turns it into the rule at every place.
-- Assumes nothing.
use mathlib.Core.Path.{◌≡◌, refl, ap}
use mathlib.Core.Bool.{Bool, true, false, cond, ◌&&◌, and-eq-true_iff}
use mathlib.Core.List.{List, [], ◌∷◌}
use Prim.Native.Nat.{ℕ, zero, suc, ◌+◌, ◌-◌, ◌≤◌, ◌<◌}
use native.Mathlib.Omega.{arith}
use borrow.Author.Tests.{eqb-true, ltb-true, le-ltb}
use lib.Dec.{eqb, ltb}
use lib.ListN.{length}
use Rattle.std.specs.Prelude.{Result, Ok, Err}
use Rattle.days.specs.Refusals.{number_or_zero}
use Rattle.days.specs.declared.refusal.Refusal.{Refusal}
use Rattle.days.specs.declared.refusal.Refusal.TheVariants.{BadInput}
use Rattle.words.specs.Words.{behind_mark, small_byte, small_from, same_bytes, place_in, name_at}
use Rattle.names.specs.declared.Kind.{Kind}
use Rattle.names.specs.declared.Kind.TheVariants.{Tithi, Nakshatra, Yoga, Karana, Sign, Month, Fortnight, Weekday}
use Rattle.names.specs.Names.{plain_names, other_names, count_of, first_of, name_read, name_of}

-- a word is read as this number
abbrev is_number : ℕ → Result ℕ Refusal → Bool
is_number n (Ok m) = eqb m n
is_number n (Err _) = false

unfoldable reads_as : Kind → ℕ → List ℕ → Bool
reads_as k n w = is_number n (name_read k w)

-- each of some words is read as its number, the first as n
unfoldable each_reads : Kind → ℕ → List (List ℕ) → Bool
each_reads k n [] = true
each_reads k n (w ∷ ws) = reads_as k n w && each_reads k (suc n) ws

read_as : (k : Kind) (n : ℕ) (w : List ℕ) → reads_as k n w ≡ true → name_read k w ≡ Ok n
unfolding reads_as
read_as k n w e = go (name_read k w) e
  where
    go : (read : Result ℕ Refusal) → is_number n read ≡ true → read ≡ Ok n
    go (Ok m) e = ap Ok (eqb-true _ _ e)
    go (Err _) e = absurd cc

at_place : (k : Kind) (n : ℕ) (ws : List (List ℕ)) → each_reads k n ws ≡ true → (i : ℕ) → i < length ws → name_read k (name_at ws i) ≡ Ok (n + i)
unfolding each_reads name_at
at_place k n [] e i h = absurd (omega arith)
at_place k n (w ∷ ws) e zero h =
    let same : n + 0 ≡ n = omega arith in
    rw same (read_as k n w ((and-eq-true_iff (reads_as k n w) (each_reads k (suc n) ws)).0 e).0)
at_place k n (w ∷ ws) e (suc i) h =
    let same : n + suc i ≡ suc n + i = omega arith in
    rw same (at_place k (suc n) ws ((and-eq-true_iff (reads_as k n w) (each_reads k (suc n) ws)).0 e).1 i (omega arith))

-- the test over each list
plain-read : (k : Kind) → each_reads k (first_of k) (plain_names k) ≡ true
unfolding each_reads reads_as name_read place_in same_bytes small_from small_byte behind_mark
plain-read Tithi = refl
plain-read Nakshatra = refl
plain-read Yoga = refl
plain-read Karana = refl
plain-read Sign = refl
plain-read Month = refl
plain-read Fortnight = refl
plain-read Weekday = refl

other-read : (k : Kind) → each_reads k (first_of k) (other_names k) ≡ true
unfolding each_reads reads_as name_read place_in same_bytes small_from small_byte behind_mark
other-read Tithi = refl
other-read Nakshatra = refl
other-read Yoga = refl
other-read Karana = refl
other-read Sign = refl
other-read Month = refl
other-read Fortnight = refl
other-read Weekday = refl

-- both lists of a kind have as many names as there are numbers
pub counted : (k : Kind) → (length (plain_names k) ≡ count_of k) × (length (other_names k) ≡ count_of k)
counted Tithi = (refl, refl)
counted Nakshatra = (refl, refl)
counted Yoga = (refl, refl)
counted Karana = (refl, refl)
counted Sign = (refl, refl)
counted Month = (refl, refl)
counted Fortnight = (refl, refl)
counted Weekday = (refl, refl)

-- a kind has one to thirty names, and the first number is 0 or 1
pub few : (k : Kind) → (1 ≤ count_of k) × (count_of k ≤ 30) × (first_of k ≤ 1)
few Tithi = (omega arith, omega arith, omega arith)
few Nakshatra = (omega arith, omega arith, omega arith)
few Yoga = (omega arith, omega arith, omega arith)
few Karana = (omega arith, omega arith, omega arith)
few Sign = (omega arith, omega arith, omega arith)
few Month = (omega arith, omega arith, omega arith)
few Fortnight = (omega arith, omega arith, omega arith)
few Weekday = (omega arith, omega arith, omega arith)

name-at-place : (k : Kind) (i : ℕ) → name_of k (first_of k + i) ≡ name_at (plain_names k) i
unfolding name_of
name-at-place k i =
    let back : first_of k + i - first_of k ≡ i = omega arith in
    rw (le-ltb (first_of k + i) (first_of k) (omega arith), back)

-- what a word is read as is one of the kind's numbers, or 0
pub number-few : (k : Kind) (w : List ℕ) → number_or_zero (name_read k w) < first_of k + count_of k
unfolding name_read number_or_zero
number-few k w = go (ltb (place_in (plain_names k) w) (count_of k)) (ltb (place_in (other_names k) w) (count_of k)) refl refl
  where
    go :
        (t u : Bool) →
        ltb (place_in (plain_names k) w) (count_of k) ≡ t →
        ltb (place_in (other_names k) w) (count_of k) ≡ u →
        number_or_zero (cond t (Ok (first_of k + place_in (plain_names k) w)) (cond u (Ok (first_of k + place_in (other_names k) w)) (Err BadInput)))
        < first_of k + count_of k
    go true u e f = omega (arith, ltb-true (place_in (plain_names k) w) (count_of k) e)
    go false true e f = omega (arith, ltb-true (place_in (other_names k) w) (count_of k) f)
    go false false e f = omega (arith, few k)

-- A PRINTED NAME is read as its number
pub printed-read : (k : Kind) (i : ℕ) → i < count_of k → name_read k (name_of k (first_of k + i)) ≡ Ok (first_of k + i)
printed-read k i h = rw (name-at-place k i) (at_place k (first_of k) (plain_names k) (plain-read k) i (omega (arith, (counted k).0)))

-- and so is the other spelling, never as another's
pub transliteration-read : (k : Kind) (i : ℕ) → i < count_of k → name_read k (name_at (other_names k) i) ≡ Ok (first_of k + i)
transliteration-read k i h = at_place k (first_of k) (other_names k) (other-read k) i (omega (arith, (counted k).1))

-- TWO NAMES of a kind are not alike
pub names-differ : (k : Kind) (i j : ℕ) → i < count_of k → j < count_of k → name_of k (first_of k + i) ≡ name_of k (first_of k + j) → i ≡ j
names-differ k i j hi hj same =
    let one : first_of k + i ≡ first_of k + j = cc (printed-read k i hi, printed-read k j hj) in
    omega (arith, one)
