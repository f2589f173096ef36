-- How far the two editions' Moons are apart: the addition is at most 290 seconds, since the Sun's equation is largest
-- at the quarter; and where that equation is below 27 there is none.
-- Assumes nothing.
use mathlib.Core.Bool.{Bool, true, false, cond}
use mathlib.Core.Logic.{◌⊎◌, inl, inr}
use mathlib.Core.Path.{◌≡◌, refl, sym}
use Prim.Native.Nat.{ℕ, ◌+◌, ◌*◌, ◌-◌, ◌/◌, ◌%◌, ◌≤◌, ◌<◌}
use native.Mathlib.Decide.{dec_le}
use native.Mathlib.Omega.{arith}
use lib.Dec.{leb}
use borrow.Author.Tests.{leb-true, leb-false}
use Rattle.days.specs.declared.Day.{Day}
use Rattle.longitudes.specs.Longitudes.{circle, difference_of, longitude_at}
use Rattle.longitudes.proofs.Subtraction.{difference-small, difference-by}
use Rattle.panchanga.specs.TrueLongitudes.{bhuja, bhuja_product, equation, corrected, first_edition, second_edition, sun_apogee, sun_anomaly, sun_equation, largest_sun_equation, true_moon}
use Rattle.panchanga.specs.OnDays.{true_moon_at}
use Rattle.panchanga.proofs.Naturals.{added, subtracted}
use Rattle.panchanga.proofs.Bounds.{moon-alone-small}
use Rattle.panchanga.proofs.TrueSun.{by_q, product-most, equation-most}

bhuja-most : (x : ℕ) → x < circle → bhuja x ≤ 324000
unfolding bhuja
bhuja-most x h = go (leb x 324000) (leb x 648000) (leb x 972000) refl refl refl
  where
    go : (t u v : Bool) → leb x 324000 ≡ t → leb x 648000 ≡ u → leb x 972000 ≡ v → cond t x (cond u (648000 - x) (cond v (x - 648000) (1296000 - x))) ≤ 324000
    go true u v a b c = leb-true x 324000 a
    go false true v a b c = omega (arith, leb-false x 324000 a)
    go false false true a b c = omega (arith, leb-true x 972000 c)
    go false false false a b c = omega (arith, leb-false x 972000 c)

-- the Sun's equation is never above its largest
pub sun-equation-most : (mean : ℕ) → sun_equation mean ≤ largest_sun_equation
unfolding equation by_q
sun-equation-most mean =
    let x = sun_anomaly mean in
    equation-most (bhuja_product (bhuja x)) (product-most (bhuja x) (omega (arith, bhuja-most x (difference-small sun_apogee mean))))

-- and a twenty-seventh of it 290
pub sun-share-most : (mean : ℕ) → sun_equation mean / 27 ≤ 290
sun-share-most mean = omega (arith, sun-equation-most mean)

-- the short way round from one longitude to another is at most so many seconds
abbrev pub Within : ℕ → ℕ → ℕ → Type 0
Within n a b = (difference_of a b ≤ n) ⊎ (difference_of b a ≤ n)

forwards : (a size : ℕ) → size ≤ 290 → difference_of ((a + size) % circle) a ≤ 290
forwards a size h = omega (arith, difference-by ((a + size) % circle) a size ((a + size) / circle) (omega arith))

back : (a size : ℕ) → size ≤ 290 → difference_of a ((a + circle - size) % circle) ≤ 290
back a size h =
    let q = (a + circle - size) / circle in
    omega (arith, difference-by a ((a + circle - size) % circle) (size + q * circle) 1 (omega arith))

near : (a x size : ℕ) → size ≤ 290 → Within 290 a (corrected a x size)
near a x size h = go (dec_le x 648000)
  where
    go : Dec (x ≤ 648000) → Within 290 a (corrected a x size)
    go (yes k) = inr (rw (added a x size k) (forwards a size h))
    go (no k) = inl (rw (subtracted a x size (omega arith) (omega arith)) (back a size h))

-- the two editions' Moons are never further apart than a twenty-seventh of the Sun's largest equation
pub editions-near : (d : Day) → Within 290 (true_moon_at first_edition d) (true_moon_at second_edition d)
unfolding true_moon_at true_moon
editions-near d = near _ _ _ (sun-share-most (longitude_at 0 d))

same : (a x : ℕ) → a < circle → corrected a x 0 ≡ a
same a x h = go (dec_le x 648000)
  where
    go : Dec (x ≤ 648000) → corrected a x 0 ≡ a
    go (yes k) = rw (added a x 0 k) (omega arith)
    go (no k) = rw (subtracted a x 0 (omega arith) (omega arith)) (omega arith)

-- where the Sun's equation is below 27 they agree
pub editions-agree : (d : Day) → sun_equation (longitude_at 0 d) < 27 → true_moon_at first_edition d ≡ true_moon_at second_edition d
unfolding true_moon_at true_moon
editions-agree d h =
    let none : sun_equation (longitude_at 0 d) / 27 ≡ 0 = omega arith in
    rw none (sym (same _ _ (moon-alone-small _ _)))
