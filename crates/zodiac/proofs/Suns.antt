-- Where the mean Sun stands when the mean or the true Sun enters a sign: by the mean Sun at the sign's start, by the
-- true Sun at the longitude of a table, which is computed once for each of twelve signs; circles add nothing, and the
-- true Sun never goes back. Assumes nothing.
use mathlib.Core.Path.{◌≡◌, ap, ◌∙◌}
use Prim.Native.Nat.{ℕ, zero, suc, ◌+◌, ◌-◌, ◌*◌, ◌/◌, ◌%◌, ◌≤◌, ◌<◌}
use native.Mathlib.Decide.{dec_le}
use native.Mathlib.Omega.{arith}
use lib.ListN.{get_or}
use Rattle.integers.specs.Integers.{reduced}
use Rattle.longitudes.specs.Longitudes.{circle, difference_of}
use Rattle.longitudes.proofs.Sun.{unrolled, unrolled-reduced}
use Rattle.panchanga.specs.TrueLongitudes.{bhuja, equation, true_sun}
use Rattle.panchanga.specs.OnDays.{true_sun_at}
use Rattle.panchanga.proofs.TrueSun.{shown, shown-mono, shown-circle, shown-reduced}
use Rattle.zodiac.specs.declared.Sun.{Sun}
use Rattle.zodiac.specs.declared.Sun.TheVariants.{Mean, True}
use Rattle.zodiac.specs.Zodiac.{sun_at, sign_on}
use Rattle.zodiac.specs.Passed.{delays, delay_of, entry_at_seconds}

-- ---- the Sun that is meant, where the mean Sun has gone u seconds, not reduced
unfoldable pub shown_by : Sun → ℕ → ℕ
shown_by Mean u = u
shown_by True u = shown u

pub shown-by-mono : (sun : Sun) (u v : ℕ) → u ≤ v → shown_by sun u ≤ shown_by sun v
unfolding shown_by
shown-by-mono Mean u v h = h
shown-by-mono True u v h = omega (arith, shown-mono u (v - u), ap shown {x = u + (v - u)} {y = v} (omega arith))

pub unrolled-least : (n : ℕ) → 1258860 ≤ unrolled n
unfolding unrolled
unrolled-least n = omega arith

pub shown-by-sign : (sun : Sun) (n : ℕ) → sign_on sun n ≡ shown_by sun (unrolled n) / 108000 % 12
unfolding shown_by sun_at true_sun_at
shown-by-sign Mean n = omega (arith, unrolled-reduced n)
shown-by-sign True n =
    let true-sun = shown-reduced (unrolled n) (omega (arith, unrolled-least n)) ∙ ap true_sun (unrolled-reduced n) in
    omega (arith, true-sun)

-- ---- what holds of each number below n
AllBelow : (ℕ → Type 0) → ℕ → Type 0
AllBelow P zero = Unit {0}
AllBelow P (suc n) = P n × AllBelow P n

below : (P : ℕ → Type 0) (n : ℕ) → AllBelow P n → (i : ℕ) → i < n → P i
unfolding AllBelow
below P zero all i h = absurd (omega arith)
below P (suc n) all i h = go (dec_le n i) (below P n all.1 i)
  where
    go : Dec (n ≤ i) → (i < n → P i) → P i
    go (yes l) rest = let last : i ≡ n = omega arith in rw last all.0
    go (no l) rest = rest (omega arith)

-- ---- where k signs are passed: the true Sun stands there at their end, and a second before it does not; and the mean
-- Sun is past the largest equation, so that circles add nothing
record Entry (k : ℕ) : Type 0 where
  pub here : 108000 * k ≤ shown (entry_at_seconds True k)
  pub not-before : shown (entry_at_seconds True k - 1) < 108000 * k
  pub late : 7846 ≤ entry_at_seconds True k

twelve : AllBelow (λ (i : ℕ). Entry (i + 1)) 12
unfolding shown delays equation bhuja difference_of reduced AllBelow
twelve = omega arith

-- twelve signs more are a circle more
entry-circle : (k : ℕ) → 1 ≤ k → entry_at_seconds True (k + 12) ≡ entry_at_seconds True k + circle
entry-circle k h =
    let same : (k + 12) % 12 ≡ k % 12 = omega arith in
    rw same (omega arith)

next-circle : (k : ℕ) → 1 ≤ k → Entry k → Entry (k + 12)
next-circle k h e =
    let x = entry_at_seconds True k in
    let c = entry-circle k h in
    let before : entry_at_seconds True (k + 12) - 1 ≡ x - 1 + circle = omega (arith, e.late) in
    record {
      here = omega (arith, e.here, ap shown c, shown-circle x (omega (arith, e.late)));
      not-before = omega (arith, e.not-before, ap shown before, shown-circle (x - 1) (omega (arith, e.late)));
      late = omega (arith, e.late);
    }

entry_in : (m i : ℕ) → i < 12 → Entry (12 * m + (i + 1))
entry_in zero i h = rw same (below (λ (i : ℕ). Entry (i + 1)) 12 twelve i h)
  where
    same : 12 * zero + (i + 1) ≡ i + 1
    same = omega arith
entry_in (suc m) i h = rw same (next-circle (12 * m + (i + 1)) (omega arith) (entry_in m i h))
  where
    same : 12 * suc m + (i + 1) ≡ 12 * m + (i + 1) + 12
    same = omega arith

entry_of : (k : ℕ) → 1 ≤ k → Entry k
entry_of k h = rw same (entry_in ((k - 1) / 12) ((k - 1) % 12) (omega arith))
  where
    same : k ≡ 12 * ((k - 1) / 12) + ((k - 1) % 12 + 1)
    same = omega (arith, h)

-- the mean Sun has the lead for the delay of every sign
all-mean : AllBelow (λ (i : ℕ). get_or (delays Mean) i 0 ≡ 7728) 12
unfolding delays AllBelow
all-mean = omega arith

mean-delay : (k : ℕ) → delay_of Mean k ≡ 7728
mean-delay k = below (λ (i : ℕ). get_or (delays Mean) i 0 ≡ 7728) 12 all-mean (k % 12) (omega arith)

-- from there on, and not before, the signs are passed
pub reached : (sun : Sun) (k u : ℕ) → 1 ≤ k → entry_at_seconds sun k ≤ u → 108000 * k ≤ shown_by sun u
unfolding shown_by
reached Mean k u h l = omega (arith, mean-delay k)
reached True k u h l = omega (arith, (entry_of k h).here, shown-by-mono True (entry_at_seconds True k) u l)

pub unreached : (sun : Sun) (k u : ℕ) → 1 ≤ k → u < entry_at_seconds sun k → shown_by sun u < 108000 * k
unfolding shown_by
unreached Mean k u h l = omega (arith, mean-delay k)
unreached True k u h l = omega (arith, (entry_of k h).not-before, shown-by-mono True u (entry_at_seconds True k - 1) (omega arith))

-- ---- the seconds from a sign's entry to the next one's, by the mean Sun and by the true one
abbrev pub least_sign : Sun → ℕ
least_sign Mean = 108000
least_sign True = 104048

abbrev pub most_sign : Sun → ℕ
most_sign Mean = 108000
most_sign True = 112252

record Delay (i : ℕ) : Type 0 where
  pub small : get_or (delays True) i 0 ≤ 15334
  pub falls : get_or (delays True) i 0 ≤ get_or (delays True) ((i + 1) % 12) 0 + 3952
  pub grows : get_or (delays True) ((i + 1) % 12) 0 ≤ get_or (delays True) i 0 + 4252

all-delays : AllBelow Delay 12
unfolding delays AllBelow
all-delays = omega arith

delay-in : (k : ℕ) → Delay (k % 12)
delay-in k = below Delay 12 all-delays (k % 12) (omega arith)

pub delay-small : (sun : Sun) (k : ℕ) → delay_of sun k ≤ 15334
delay-small Mean k = omega (arith, mean-delay k)
delay-small True k = (delay-in k).small

-- no day goes so far
pub sign-long : (sun : Sun) → 3549 ≤ least_sign sun
sign-long Mean = omega arith
sign-long True = omega arith

pub next-entry : (sun : Sun) (k : ℕ) → 1 ≤ k → (entry_at_seconds sun k + least_sign sun ≤ entry_at_seconds sun (k + 1)) × (entry_at_seconds sun (k + 1) ≤ entry_at_seconds sun k + most_sign sun)
next-entry Mean k h = omega (arith, mean-delay k, mean-delay (k + 1))
next-entry True k h =
    let same : (k + 1) % 12 ≡ (k % 12 + 1) % 12 = omega arith in
    rw same (omega (arith, delay-in k))
