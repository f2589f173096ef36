-- The true longitude of each body: which it is, and that it is below a circle.
-- Assumes nothing.
use mathlib.Core.Bool.{Bool, true, false, cond}
use mathlib.Core.Path.{◌≡◌, refl, sym, ap, ◌∙◌}
use Prim.Native.Nat.{ℕ, ◌+◌, ◌-◌, ◌<◌, ◌≤◌}
use native.Mathlib.Omega.{arith}
use lib.Dec.{eqb, ltb}
use borrow.Author.Tests.{ne_eqb, lt-ltb, le-ltb}
use Rattle.days.specs.declared.Day.{Day}
use Rattle.std.specs.Prelude.{Ok}
use Rattle.days.specs.Days.{last_day, pair_at, answer_on}
use Rattle.days.proofs.Laws.{pair-in-range, given, told}
use Rattle.longitudes.specs.Longitudes.{circle}
use Rattle.longitudes.proofs.Table.{longitude-small}
use Rattle.panchanga.specs.TrueLongitudes.{first_edition}
use Rattle.panchanga.specs.OnDays.{true_sun_at, true_moon_at}
use Rattle.panchanga.proofs.Bounds.{sun-small, moon-small}
use Rattle.planets.specs.OnDays.{true_planet_at}
use Rattle.planets.proofs.Bounds.{planet-small}
use Rattle.arms.specs.Orders.{seconds_on, true_seconds_on}

pub sun-is : (n : ℕ) → true_seconds_on n 0 ≡ true_sun_at (pair_at n)
unfolding true_seconds_on
sun-is n = refl

pub moon-is : (n : ℕ) → true_seconds_on n 1 ≡ true_moon_at first_edition (pair_at n)
unfolding true_seconds_on
moon-is n = refl

-- the Moon's apogee and node
pub mean-is : (n b : ℕ) → 2 ≤ b → b < 4 → true_seconds_on n b ≡ seconds_on n b
unfolding true_seconds_on
mean-is n b h k = rw (ne_eqb b 0 (omega arith), ne_eqb b 1 (omega arith), lt-ltb b 4 k)

pub planet-is : (n p : ℕ) → true_seconds_on n (4 + p) ≡ true_planet_at p (pair_at n)
unfolding true_seconds_on
planet-is n p = rw (ne_eqb (4 + p) 0 (omega arith), ne_eqb (4 + p) 1 (omega arith), le-ltb (4 + p) 4 (omega arith), e)
  where
    e : 4 + p - 4 ≡ p
    e = omega arith

pub true-small : (n b : ℕ) → true_seconds_on n b < circle
unfolding true_seconds_on
true-small n b = go (eqb b 0) (eqb b 1) (ltb b 4)
  where
    go : (t u v : Bool) → cond t (true_sun_at (pair_at n)) (cond u (true_moon_at first_edition (pair_at n)) (cond v (seconds_on n b) (true_planet_at (b - 4) (pair_at n)))) < circle
    go true u v = sun-small _
    go false true v = moon-small _ _
    go false false true = longitude-small _ _
    go false false false = planet-small _ _

-- what a call hands back of the pair of a day, where the body's true longitude is that number of it
pub given-as : (f : Day → ℕ) (n b : ℕ) {d : Day} {v : ℕ} → true_seconds_on n b ≡ f (pair_at n) → d ≡ pair_at n → Ok v ≡ answer_on f d → (v ≡ true_seconds_on n b) × (v < circle)
given-as f n b {d} {v} t p e = (is, rw is (true-small n b))
  where
    is : v ≡ true_seconds_on n b
    is = (told f d e).value ∙ ap f p ∙ sym t

pub is-given : (f : Day → ℕ) (n : ℕ) {d : Day} → n ≤ last_day → d ≡ pair_at n → answer_on f d ≡ Ok (f (pair_at n))
is-given f n h p = ap (answer_on f) p ∙ given f _ (pair-in-range n h)
