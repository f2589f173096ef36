-- The code folds an anomaly at the half circle and then at the quarter: that is the bhuja, by cases on its quarter.
-- Assumes nothing.
use mathlib.Core.Bool.{Bool, true, false, cond}
use mathlib.Core.Path.{◌≡◌, refl}
use Prim.Native.Nat.{ℕ, ◌-◌, ◌≤◌, ◌<◌}
use native.Mathlib.Omega.{arith}
use lib.Dec.{leb}
use borrow.Author.Tests.{leb-true, leb-false}
use Rattle.longitudes.specs.Longitudes.{circle}
use Rattle.panchanga.specs.TrueLongitudes.{bhuja}
use Rattle.planets.specs.Steps.{within_half}

module _ (x : ℕ) (h : x < circle) where
  pub near : within_half x ≤ 324000 → within_half x ≡ bhuja x
  unfolding within_half bhuja
  near l = go (leb x 324000) (leb x 648000) (leb x 972000) refl refl refl l
    where
      go : (t u v : Bool) → leb x 324000 ≡ t → leb x 648000 ≡ u → leb x 972000 ≡ v → cond u x (circle - x) ≤ 324000 → cond u x (circle - x) ≡ cond t x (cond u (648000 - x) (cond v (x - 648000) (1296000 - x)))
      go true true v a b c k = refl
      go true false v a b c k = absurd (omega (arith, leb-true x 324000 a, leb-false x 648000 b))
      go false true v a b c k = omega (arith, leb-false x 324000 a)
      go false false true a b c k = omega (arith, leb-true x 972000 c)
      go false false false a b c k = refl

  pub far : 324000 < within_half x → 648000 - within_half x ≡ bhuja x
  unfolding within_half bhuja
  far l = go (leb x 324000) (leb x 648000) (leb x 972000) refl refl refl l
    where
      go : (t u v : Bool) → leb x 324000 ≡ t → leb x 648000 ≡ u → leb x 972000 ≡ v → 324000 < cond u x (circle - x) → 648000 - cond u x (circle - x) ≡ cond t x (cond u (648000 - x) (cond v (x - 648000) (1296000 - x)))
      go true true v a b c k = absurd (omega (arith, leb-true x 324000 a))
      go true false v a b c k = absurd (omega (arith, leb-true x 324000 a, leb-false x 648000 b))
      go false true v a b c k = refl
      go false false true a b c k = omega (arith, leb-false x 648000 b)
      go false false false a b c k = omega (arith, leb-false x 972000 c)
