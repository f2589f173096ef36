-- The true Sun goes forwards with the mean one, and is never farther from it than the largest equation: a second more
-- of mean longitude changes the equation by at most a second. Both with all their circles, so that nothing is reduced.
-- Assumes nothing.
use mathlib.Core.Path.{◌≡◌, refl, ap, ◌∙◌}
use mathlib.Core.Bool.{cond}
use Prim.Native.Nat.{ℕ, zero, suc, ◌+◌, ◌*◌, ◌-◌, ◌/◌, ◌%◌, ◌≤◌, ◌<◌}
use native.Mathlib.Decide.{dec_le}
use native.Mathlib.Nat.{mul-le-mul_left, lt-div-mul-add, div-lt_iff_lt-mul}
use native.Mathlib.Omega.{arith}
use lib.Dec.{leb}
use borrow.Author.Tests.{le-leb, lt-leb}
use Rattle.longitudes.specs.Longitudes.{circle}
use Rattle.longitudes.proofs.Subtraction.{difference-law, difference-small}
use Rattle.panchanga.specs.TrueLongitudes.{bhuja_product, equation, true_longitude, sun_anomaly, sun_equation, largest_sun_equation, true_sun}
use Rattle.panchanga.proofs.Naturals.{added, subtracted, first-half, second-half}

-- the equation by Q, and by an anomaly in its half circle
unfoldable pub by_q : ℕ → ℕ
by_q Q = 32400 * Q / (538526880000 - Q)

abbrev in_half : ℕ → ℕ
in_half s = by_q (bhuja_product s)

-- Q is largest in the middle of the half circle
pub product-most : (s : ℕ) → s ≤ 648000 → bhuja_product s ≤ 104976000000
product-most s h = go (dec_le s 324000)
  where
    low : (s t : ℕ) → s + t ≡ 324000 → s * (s + t + t) ≤ 104976000000
    low s t e = omega (arith, ap (λ (x : ℕ). x * x) e)

    high : (s t : ℕ) → s + t ≡ 324000 → (s + t + t) * s ≤ 104976000000
    high s t e = omega (arith, ap (λ (x : ℕ). x * x) e)

    go : Dec (s ≤ 324000) → bhuja_product s ≤ 104976000000
    go (yes l) =
        let r : 648000 - s ≡ s + (324000 - s) + (324000 - s) = omega arith in
        rw r (low s (324000 - s) (omega arith))
    go (no l) =
        let w : s ≡ 648000 - s + (s - 324000) + (s - 324000) = omega arith in
        rw (ap (λ (x : ℕ). x * (648000 - s)) w) (high (648000 - s) (s - 324000) (omega arith))

-- THE SUN'S LARGEST EQUATION
pub equation-most : (Q : ℕ) → Q ≤ 104976000000 → by_q Q ≤ largest_sun_equation
unfolding by_q
equation-most Q h = omega (arith, below)
  where
    wide : (d : ℕ) → 433550880000 ≤ d → 32400 * Q < 7846 * d
    wide d k = omega arith

    below : 32400 * Q / (538526880000 - Q) < 7846
    below =
        (div-lt_iff_lt-mul {k = 538526880000 - Q} {x = 32400 * Q} {y = 7846} (omega arith)).1
        (wide (538526880000 - Q) (omega arith))

-- a Q that is at most 648000 more gives at most a second more
little-more : (Q Q' : ℕ) → Q ≤ 104976000000 → Q' ≤ 104976000000 → Q' ≤ Q + 648000 → by_q Q' ≤ by_q Q + 1
unfolding by_q
little-more Q Q' h h' k = omega (arith, less)
  where
    n : ℕ
    n = 32400 * Q / (538526880000 - Q)

    product : (n R R' : ℕ) → n ≤ 7845 → R ≤ R' + 648000 → n * R ≤ n * R' + 7845 * 648000
    product n R R' b l = omega (arith, mul-le-mul_left n l)

    enough : (n R R' : ℕ) → n ≤ 7845 → R ≤ R' + 648000 → 433550880000 ≤ R' → 32400 * Q < n * R + R → 32400 * Q' < (n + 2) * R'
    enough n R R' b l w m = omega (arith, product n R R' b l)

    less : 32400 * Q' / (538526880000 - Q') < n + 2
    less =
        (div-lt_iff_lt-mul {k = 538526880000 - Q'} {x = 32400 * Q'} {y = n + 2} (omega arith)).1
        (enough n (538526880000 - Q) (538526880000 - Q') (equation-most Q h) (omega arith) (omega arith) (lt-div-mul-add {a = 32400 * Q} {b = 538526880000 - Q} (omega arith)))

-- a second more of anomaly in its half circle: at most a second more, or less
half_step : (s : ℕ) → s < 648000 → (in_half (s + 1) ≤ in_half s + 1) × (in_half s ≤ in_half (s + 1) + 1)
half_step s h =
    let r : 648000 - s ≡ 647999 - s + 1 = omega arith in
    let r' : 648000 - (s + 1) ≡ 647999 - s = omega arith in
    let m : bhuja_product s ≤ 104976000000 = product-most s (omega arith) in
    let m' : bhuja_product (s + 1) ≤ 104976000000 = product-most (s + 1) (omega arith) in
    let n = near s (647999 - s) (omega arith) in
    let n' : (bhuja_product (s + 1) ≤ bhuja_product s + 648000) × (bhuja_product s ≤ bhuja_product (s + 1) + 648000) = rw (r, r') n in
    (little-more (bhuja_product s) (bhuja_product (s + 1)) m m' n'.0, little-more (bhuja_product (s + 1)) (bhuja_product s) m' m n'.1)
  where
    near : (s t : ℕ) → s + t ≡ 647999 → ((s + 1) * t ≤ s * (t + 1) + 648000) × (s * (t + 1) ≤ (s + 1) * t + 648000)
    near s t e = omega arith

-- the Sun's anomaly where the mean Sun has gone u seconds, with all its circles
abbrev anomaly_at : ℕ → ℕ
anomaly_at u = sun_anomaly (u % circle)

anomaly-is : (u : ℕ) → anomaly_at u ≡ (1576800 - u % 1296000) % 1296000
anomaly-is u = difference-law 280800 (u % 1296000) (omega arith) ∙ omega arith

-- THE TRUE SUN where the mean Sun has gone u seconds, not reduced
unfoldable pub shown : ℕ → ℕ
shown u = cond (leb (anomaly_at u) 648000) (u + sun_equation (u % circle)) (u - sun_equation (u % circle))

equation-ahead : (u : ℕ) → anomaly_at u ≤ 648000 → sun_equation (u % circle) ≡ in_half (anomaly_at u)
unfolding equation by_q
equation-ahead u h = rw (← first-half (anomaly_at u) h)

equation-behind : (u : ℕ) → 648000 < anomaly_at u → sun_equation (u % circle) ≡ in_half (anomaly_at u - 648000)
unfolding equation by_q
equation-behind u h = rw (← second-half (anomaly_at u) h (difference-small _ _))

shown-ahead : (u : ℕ) → anomaly_at u ≤ 648000 → shown u ≡ u + in_half (anomaly_at u)
unfolding shown
shown-ahead u h = rw (le-leb _ _ h, equation-ahead u h)

shown-behind : (u : ℕ) → 648000 < anomaly_at u → shown u ≡ u - in_half (anomaly_at u - 648000)
unfolding shown
shown-behind u h = rw (lt-leb _ _ h, equation-behind u h)

-- no farther from the mean Sun than the largest equation
half-most : (s : ℕ) → s ≤ 648000 → in_half s ≤ largest_sun_equation
half-most s h = equation-most (bhuja_product s) (product-most s h)

pub shown-near : (u : ℕ) → (u ≤ shown u + largest_sun_equation) × (shown u ≤ u + largest_sun_equation)
shown-near u = go (dec_le (anomaly_at u) 648000)
  where
    go : Dec (anomaly_at u ≤ 648000) → (u ≤ shown u + largest_sun_equation) × (shown u ≤ u + largest_sun_equation)
    go (yes h) = omega (arith, shown-ahead u h, half-most (anomaly_at u) h)
    go (no h) = omega (arith, shown-behind u (omega arith), half-most (anomaly_at u - 648000) (omega (arith, anomaly-is u)))

-- at the ends of the half circle there is none, and a second before the end at most a second
ends : (in_half 0 ≡ 0) × ((in_half 648000 ≡ 0) × (in_half 647999 ≤ 1))
unfolding by_q
ends = (refl, (refl, omega arith))

pub shown-step : (u : ℕ) → shown u ≤ shown (u + 1)
shown-step u = go (dec_le (anomaly_at u) 0) (dec_le (anomaly_at u) 648000) (dec_le (anomaly_at u) 648001)
  where
    turns : anomaly_at u ≤ 0 → anomaly_at (u + 1) ≡ 1295999
    turns h = omega (arith, anomaly-is u, anomaly-is (u + 1))

    falls : 0 < anomaly_at u → anomaly_at (u + 1) ≡ anomaly_at u - 1
    falls h = omega (arith, anomaly-is u, anomaly-is (u + 1))

    half_at : {s t : ℕ} → s ≡ t → in_half s ≡ in_half t
    half_at e = ap in_half e

    go : Dec (anomaly_at u ≤ 0) → Dec (anomaly_at u ≤ 648000) → Dec (anomaly_at u ≤ 648001) → shown u ≤ shown (u + 1)
    go (yes z) h k =
        let a : anomaly_at u ≡ 0 = omega arith in
        let b = turns z in
        omega (arith, shown-ahead u (omega arith), half_at a, shown-behind (u + 1) (omega arith), half_at {s = anomaly_at (u + 1) - 648000} {t = 647999} (omega arith), ends)
    go (no z) (yes h) k =
        let b = falls (omega arith) in
        omega (arith, shown-ahead u h, shown-ahead (u + 1) (omega arith), half_at b, half_step (anomaly_at u - 1) (omega arith), half_at {s = anomaly_at u - 1 + 1} {t = anomaly_at u} (omega arith))
    go (no z) (no h) (yes k) =
        let b = falls (omega arith) in
        omega (arith, shown-behind u (omega arith), shown-ahead (u + 1) (omega arith))
    go (no z) (no h) (no k) =
        let b = falls (omega arith) in
        let s = anomaly_at u - 648001 in
        omega (
          arith,
          shown-behind u (omega arith),
          shown-behind (u + 1) (omega arith),
          half_step s (omega (arith, anomaly-is u)),
          half_at {s = s + 1} {t = anomaly_at u - 648000} (omega arith),
          half_at {s = s} {t = anomaly_at (u + 1) - 648000} (omega arith),
        )

pub shown-mono : (u k : ℕ) → shown u ≤ shown (u + k)
shown-mono u zero = omega (arith, ap shown {x = u + 0} {y = u} (omega arith))
shown-mono u (suc k) = omega (arith, shown-mono u k, shown-step (u + k), ap shown {x = u + suc k} {y = u + k + 1} (omega arith))

-- a circle more of the mean Sun is a circle more of the true one
pub shown-circle : (u : ℕ) → largest_sun_equation ≤ u → shown (u + circle) ≡ shown u + circle
shown-circle u l = go (dec_le (anomaly_at u) 648000)
  where
    same : anomaly_at (u + circle) ≡ anomaly_at u
    same = omega (arith, anomaly-is u, anomaly-is (u + circle))

    go : Dec (anomaly_at u ≤ 648000) → shown (u + circle) ≡ shown u + circle
    go (yes h) = omega (arith, shown-ahead u h, shown-ahead (u + circle) (omega (arith, same)), ap in_half same)
    go (no h) =
        omega (
          arith,
          shown-behind u (omega arith),
          shown-behind (u + circle) (omega (arith, same)),
          ap (λ (a : ℕ). in_half (a - 648000)) same,
          half-most (anomaly_at u - 648000) (omega (arith, anomaly-is u)),
        )

-- it is the true Sun
pub shown-reduced : (u : ℕ) → largest_sun_equation ≤ u → shown u % circle ≡ true_sun (u % circle)
unfolding true_longitude
shown-reduced u l = go (dec_le (anomaly_at u) 648000)
  where
    go : Dec (anomaly_at u ≤ 648000) → shown u % circle ≡ true_sun (u % circle)
    go (yes h) = rw (added (u % circle) (anomaly_at u) (sun_equation (u % circle)) h) (omega (arith, shown-ahead u h, equation-ahead u h))
    go (no h) =
        let k : 648000 < anomaly_at u = omega arith in
        let m : sun_equation (u % circle) ≤ largest_sun_equation = omega (arith, equation-behind u k, half-most (anomaly_at u - 648000) (omega (arith, anomaly-is u))) in
        rw (subtracted (u % circle) (anomaly_at u) (sun_equation (u % circle)) k (omega arith)) (omega (arith, shown-behind u k, equation-behind u k))
